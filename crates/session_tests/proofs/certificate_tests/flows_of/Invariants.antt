use Rattle.std.proofs.Common.{◌*◌, ◌^◌, ◌≤◌, All}
use Rattle.certificate.specs.Accounts.{amount_of}
use Rattle.session_tests.proofs.certificate_tests.flows_of.Given as goal

abbrev pub invariant-loop-child : goal.invariant-loop-child
invariant-loop-child g l = All (λ flow. 1 ≤ flow.amount) l.flows.items × (amount_of l.flows.items ≤ l.child-index * 2 ^ 64)
