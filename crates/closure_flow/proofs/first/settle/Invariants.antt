use Rattle.std.proofs.Common.{◌≡◌, ℕ, true}
use Rattle.std.specs.FinSet as set
use Rattle.closure_flow.specs.Closures.{parents_at}
use Rattle.closure_flow.specs.Views.{ArrangesTo}
use Rattle.closure_flow.proofs.first.settle.Given as goal

abbrev pub invariant-loop-parent : goal.invariant-loop-parent
invariant-loop-parent g l = record {
  arranges : ArrangesTo l.parents l.to_come l.fn.network l.network;
  within : l.network.within ≡ l.fn.network.within;
  to : (t : ℕ) → set.contains l.to t ≡ true
      → (set.contains l.fn.network.within t ≡ true) × (set.contains (parents_at l.parents l.place) t ≡ true) × (l.place ≡ t → ⊥);
}

abbrev pub decreases-loop-parent : goal.decreases-loop-parent
decreases-loop-parent g l = set.len l.to
