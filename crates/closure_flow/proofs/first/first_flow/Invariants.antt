use Rattle.std.proofs.Common.{◌≡◌}
use Rattle.std.specs.FinSet as set
use Rattle.closure_flow.specs.Views.{ArrangesTo}
use Rattle.closure_flow.proofs.first.first_flow.Given as goal

abbrev pub invariant-loop-place : goal.invariant-loop-place
invariant-loop-place g l = record {
  arranges : ArrangesTo l.parents l.to_come l.fn.network l.network;
  within : l.network.within ≡ l.fn.network.within;
}

abbrev pub decreases-loop-place : goal.decreases-loop-place
decreases-loop-place g l = set.len l.to_come
