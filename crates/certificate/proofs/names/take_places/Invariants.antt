use Rattle.std.proofs.Common.{◌+◌, ◌≤◌, take, map, nat_eq, length}
use Rattle.std.specs.HashMap as hash
use Rattle.places.specs.Places.{ArePlaces}
use Rattle.certificate.proofs.names.take_places.Given as goal

abbrev pub invariant-loop-at : goal.invariant-loop-at
invariant-loop-at l = ArePlaces (take l.at (map (λ tx. tx.0) l.txs)) (hash.get nat_eq l.names) × (length l.txs ≤ hash.spare l.names + l.at)
