use Rattle.std.proofs.Common.{◌≡◌, ℕ, true, IfSome}
use Rattle.std.specs.FinSet as set
use Rattle.closure_flow.specs.Closures.{parents_at}
use Rattle.closure_flow.proofs.first.heir.Given as goal

abbrev pub invariant-loop-parent : goal.invariant-loop-parent
invariant-loop-parent g l = record {
  found : IfSome l.found (λ (p : ℕ). (set.contains (parents_at l.parents l.place) p ≡ true) × (set.contains l.to_come p ≡ true));
  left : (t : ℕ) → set.contains l.left t ≡ true → (set.contains (parents_at l.parents l.place) t ≡ true) × (set.contains l.to_come t ≡ true);
}

abbrev pub decreases-loop-parent : goal.decreases-loop-parent
decreases-loop-parent g l = set.len l.left
