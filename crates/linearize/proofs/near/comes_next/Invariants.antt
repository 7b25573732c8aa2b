use Rattle.std.proofs.Common.{◌≡◌, ℕ, true}
use Rattle.std.specs.FinSet as set
use Rattle.graphs.specs.Closures.{IsCover}
use Rattle.linearize.proofs.near.comes_next.Given as goal

abbrev pub invariant-loop-place : goal.invariant-loop-place
invariant-loop-place g l =
    ((t : ℕ) → set.contains l.left t ≡ true → set.contains l.group t ≡ true)
    × ((p c : ℕ) → set.contains l.group c ≡ true → (set.contains l.left c ≡ true → ⊥) → IsCover l.dep p c → set.contains l.known p ≡ true)

abbrev pub decreases-loop-place : goal.decreases-loop-place
decreases-loop-place g l = set.len l.left
