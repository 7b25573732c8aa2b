use Rattle.std.proofs.Common.{◌≡◌, ◌+◌, ◌*◌, ◌-◌}
use Rattle.closure_flow.specs.Views.{shown_in}
use Rattle.closure_flow.proofs.TightSets.{Drawing}
use Rattle.closure_flow.proofs.tight_sets.draw.Given as goal

abbrev pub invariant-loop-at : goal.invariant-loop-at
invariant-loop-at g l =
    Drawing (64 * g.row.W) l.parents l.within (shown_in l.network) l.place l.queue.entries l.queue.taken l.seen
    × (l.steps ≡ l.fn.steps + l.queue.taken)
    × (l.queue.given ≡ l.fn.queue.given + l.queue.taken)

abbrev pub decreases-loop-at : goal.decreases-loop-at
decreases-loop-at g l = 64 * g.row.W - l.queue.taken
