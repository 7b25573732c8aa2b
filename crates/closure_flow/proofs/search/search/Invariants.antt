use Rattle.std.proofs.Common.{◌≡◌, ◌+◌, ◌*◌, ◌-◌}
use Rattle.closure_flow.specs.Closures.{weight_at}
use Rattle.closure_flow.specs.Networks.{sent}
use Rattle.closure_flow.proofs.Levels.{Levels}
use Rattle.closure_flow.proofs.Searches.{Searching}
use Rattle.closure_flow.proofs.search.search.Given as goal

abbrev pub invariant-loop-place : goal.invariant-loop-place
invariant-loop-place g l =
    Searching (64 * g.row.W) l.parents l.network.within (sent (64 * g.row.W) l.network.into.items l.network.amounts.items)
    (weight_at l.network.rest.items) l.queue.entries l.queue.taken l.seen
    × Levels l.parents l.network.within (sent (64 * g.row.W) l.network.into.items l.network.amounts.items) (weight_at l.network.rest.items)
    l.queue.entries l.queue.taken
    × (l.steps ≡ l.fn.steps + l.queue.taken)
    × (l.queue.given ≡ l.fn.queue.given + l.queue.taken)

abbrev pub decreases-loop-place : goal.decreases-loop-place
decreases-loop-place g l = 64 * g.row.W - l.queue.taken
