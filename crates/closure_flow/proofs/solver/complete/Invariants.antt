use Rattle.std.proofs.Common.{◌≡◌, ◌+◌, ◌*◌, ◌≤◌}
use Rattle.std.specs.FinSet as set
use Rattle.bitset.specs.Places.{places}
use Rattle.closure_flow.specs.Closures.{weight_at}
use Rattle.closure_flow.specs.Flows.{surplus}
use Rattle.closure_flow.specs.Networks.{Improves, sent}
use Rattle.closure_flow.proofs.Budgets.{Budget}
use Rattle.closure_flow.proofs.solver.complete.Given as goal

abbrev pub invariant-loop-at : goal.invariant-loop-at
invariant-loop-at g l =
    Improves (64 * g.row.W) l.parents l.fn.network.within (sent (64 * g.row.W) l.fn.network.into.items l.fn.network.amounts.items)
    (weight_at l.fn.network.rest.items) (sent (64 * g.row.W) l.network.into.items l.network.amounts.items) (weight_at l.network.rest.items)
    × (l.network.within ≡ l.fn.network.within)
    × (l.fn.steps ≤ l.steps)
    × (l.steps + l.fn.queue.given ≡ l.fn.steps + l.queue.given)
    × Budget l.parents l.fn.network.within (places (64 * g.row.W) l.fn.network.within)
    (sent (64 * g.row.W) l.network.into.items l.network.amounts.items) (weight_at l.network.rest.items) (set.len l.fn.network.within) l.fn.steps l.steps

abbrev pub decreases-loop-at : goal.decreases-loop-at
decreases-loop-at g l = surplus (weight_at l.network.rest.items) (places (64 * g.row.W) l.fn.network.within)
