use Rattle.std.proofs.Common.{◌*◌, ◌^◌, ◌≤◌, ◌≢◌, []}
use Rattle.std.specs.Prelude.{Contains, sum_by}
use Rattle.graphs.specs.declared.names.Flow.{Flow}
use Rattle.certificate.specs.declared.owned.Part.{Part}
use Rattle.certificate.specs.Accounts.{amount_of}
use Rattle.order_tests.proofs.cluster_tests.claims_of.Given as goal

abbrev pub invariant-loop-at : goal.invariant-loop-at
invariant-loop-at g l =
    ((part : Part) → Contains l.claims.items part → part.ids ≢ [])
    × ((part : Part) (flow : Flow) → Contains l.claims.items part → Contains part.flows flow → 1 ≤ flow.amount)
    × (sum_by (λ part. amount_of part.flows) l.claims.items ≤ l.at * (4096 * 2 ^ 100))
