use Rattle.std.proofs.Common.{map, take, nat_eq}
use Rattle.std.specs.HashMap as hash
use Rattle.places.specs.Places.{ArePlaces}
use Rattle.places.proofs.names.places_of.Given as goal

abbrev pub invariant-loop-at : goal.invariant-loop-at
invariant-loop-at l = ArePlaces (take l.at (map (λ tx. tx.0) l.txs)) (hash.get nat_eq l.places)
