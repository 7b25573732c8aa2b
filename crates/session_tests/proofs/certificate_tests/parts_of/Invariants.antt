use Rattle.std.proofs.Common.{◌*◌, ◌^◌, ◌≤◌, ◌≢◌, []}
use Rattle.std.specs.Prelude.{Contains, sum_by}
use Rattle.graphs.specs.declared.names.Flow.{Flow}
use Rattle.certificate.specs.declared.owned.Part.{Part}
use Rattle.certificate.specs.Accounts.{amount_of}
use Rattle.session_tests.proofs.certificate_tests.parts_of.Given as goal

abbrev pub invariant-loop-claim : goal.invariant-loop-claim
invariant-loop-claim g l =
    ((part : Part) → Contains l.parts.items part → part.ids ≢ [])
    × ((part : Part) (flow : Flow) → Contains l.parts.items part → Contains part.flows flow → 1 ≤ flow.amount)
    × (sum_by (λ part. amount_of part.flows) l.parts.items ≤ l.claim-index * (100 * 2 ^ 64))
