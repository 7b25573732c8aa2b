use Rattle.std.proofs.Common.{◌≡◌, take, unsigned_abs}
use Rattle.std.specs.Prelude.{sum_by}
use Rattle.order_tests.proofs.closure_flow_tests.size_of.Given as goal

abbrev pub invariant-loop-weight : goal.invariant-loop-weight
invariant-loop-weight l = l.size ≡ sum_by unsigned_abs (take l.weight-index l.weights)
