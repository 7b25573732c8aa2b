use Rattle.std.proofs.Common.{◌≡◌, ◌*◌, ◌<◌, length}
use Rattle.closure_flow.specs.Closures.{weight_at}
use Rattle.closure_flow.specs.Networks.{Fits, Sends, sent}
use Rattle.closure_flow.proofs.Augmenting.{Sent}
use Rattle.closure_flow.proofs.path.send.Given as goal

abbrev pub invariant-loop-before : goal.invariant-loop-before
invariant-loop-before g l =
    (l.here < length l.queue.entries)
    × Fits l.parents (sent (64 * g.row.W) l.fn.network.into.items l.fn.network.amounts.items) (weight_at l.fn.network.rest.items)
    l.queue.entries l.here l.amount
    × Sends (64 * g.row.W) l.parents l.fn.network.within (sent (64 * g.row.W) l.fn.network.into.items l.fn.network.amounts.items)
    (sent (64 * g.row.W) l.network.into.items l.network.amounts.items) l.queue.entries l.fn.at l.here l.amount
    × (l.network.rest.items ≡ l.fn.network.rest.items)
    × (l.network.within ≡ l.fn.network.within)
    × Sent l.parents l.fn.network.within (sent (64 * g.row.W) l.fn.network.into.items l.fn.network.amounts.items)
    (sent (64 * g.row.W) l.network.into.items l.network.amounts.items) l.queue.entries l.fn.at l.here l.amount

abbrev pub decreases-loop-before : goal.decreases-loop-before
decreases-loop-before g l = l.here
