use Rattle.std.proofs.Common.{ℕ, ◌*◌, ◌<◌, ◌≤◌, length}
use Rattle.closure_flow.specs.Closures.{weight_at}
use Rattle.closure_flow.specs.Networks.{Fits, sent}
use Rattle.closure_flow.proofs.Augmenting.{Narrowed}
use Rattle.closure_flow.proofs.path.narrowest.Given as goal

abbrev pub invariant-loop-before : goal.invariant-loop-before
invariant-loop-before g l =
    (l.here < length l.queue.entries) × (0 < l.amount) × (l.amount ≤ l.fn.limit)
    × ((y : ℕ) → y ≤ l.amount
    → Fits l.parents (sent (64 * g.row.W) l.network.into.items l.network.amounts.items) (weight_at l.network.rest.items) l.queue.entries l.here y
    → Fits l.parents (sent (64 * g.row.W) l.network.into.items l.network.amounts.items) (weight_at l.network.rest.items) l.queue.entries l.fn.at y)
    × Narrowed l.parents (sent (64 * g.row.W) l.network.into.items l.network.amounts.items) l.queue.entries l.fn.at l.fn.limit l.here l.amount

abbrev pub decreases-loop-before : goal.decreases-loop-before
decreases-loop-before g l = l.here
