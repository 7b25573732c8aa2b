use Rattle.std.proofs.Common.{◌≡◌, ◌+◌}
use Rattle.std.specs.FinSet as set
use Rattle.closure_flow.proofs.Loads.{Loads}
use Rattle.closure_flow.proofs.solver.load.Given as goal

abbrev pub invariant-loop-place : goal.invariant-loop-place
invariant-loop-place g l = record {
  loads : Loads l.weights l.within l.left l.network.within l.network.into.items l.network.rest.items;
  steps : l.steps + set.len l.left ≡ l.fn.steps + set.len l.within;
}

abbrev pub decreases-loop-place : goal.decreases-loop-place
decreases-loop-place g l = set.len l.left
