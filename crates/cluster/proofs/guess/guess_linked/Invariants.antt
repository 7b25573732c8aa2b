use Rattle.std.proofs.Common.{◌≡◌, ℕ, ◌<◌, true, length, slice_index, Contains}
use Rattle.std.specs.FinSet as set
use Rattle.cluster.specs.Guesses.{AreImages}
use Rattle.cluster.proofs.guess.guess_linked.Given as goal

abbrev pub invariant-loop-at : goal.invariant-loop-at
invariant-loop-at g l =
    AreImages l.names (λ part. Contains l.old.parts part × ((p q : ℕ) → p < length l.names → q < length l.names
    → Contains part.ids (slice_index l.names p) → Contains part.ids (slice_index l.names q)
    → set.contains l.above p ≡ true → set.contains l.below q ≡ true → ⊥)) l.guess.parts.items l.guess.places.items l.guess.flows.items
