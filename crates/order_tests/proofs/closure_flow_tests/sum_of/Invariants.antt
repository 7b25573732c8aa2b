use Rattle.std.proofs.Common.{◌≡◌, take}
use Rattle.arithmetic.specs.Sums.{total}
use Rattle.order_tests.proofs.closure_flow_tests.sum_of.Given as goal

abbrev pub invariant-loop-weight : goal.invariant-loop-weight
invariant-loop-weight l = l.sum ≡ total (λ z. z) (take l.weight-index l.weights)
