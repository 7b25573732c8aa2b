use Rattle.std.proofs.Common.{◌≡◌, ◌≤◌, List, ℕ, take, nat_eq, length}
use Rattle.std.specs.HashMap as hash
use Rattle.std.specs.Prelude.{vec_capacity}
use Rattle.places.specs.Places.{ArePlaces}
use Rattle.certificate.specs.Places.{ArePairs}
use Rattle.certificate.proofs.names.take_ends.Given as goal

abbrev pub invariant-loop-edge : goal.invariant-loop-edge
invariant-loop-edge l =
    ((list : List ℕ) → ArePlaces list (hash.get nat_eq l.names) → ArePairs list (take l.edge-index l.edges) l.pairs.items)
    × (length l.pairs.items ≡ l.edge-index) × (length l.edges ≤ vec_capacity l.pairs)
