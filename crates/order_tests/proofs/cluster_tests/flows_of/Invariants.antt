use Rattle.std.proofs.Common.{◌*◌, ◌^◌, ◌≤◌, All}
use Rattle.certificate.specs.Accounts.{amount_of}
use Rattle.order_tests.proofs.cluster_tests.flows_of.Given as goal

abbrev pub invariant-loop-flow : goal.invariant-loop-flow
invariant-loop-flow g l = All (λ flow. 1 ≤ flow.amount) l.own.items × (amount_of l.own.items ≤ l.flow-index * 2 ^ 100)
