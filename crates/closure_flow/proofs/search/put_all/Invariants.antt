use Rattle.std.proofs.Common.{◌≡◌, ◌*◌}
use Rattle.std.specs.FinSet as set
use Rattle.closure_flow.proofs.Queues.{Putting}
use Rattle.closure_flow.proofs.search.put_all.Given as goal

abbrev pub invariant-loop-place : goal.invariant-loop-place
invariant-loop-place g l =
    Putting (64 * g.row.W) l.fn.queue.entries l.queue.entries l.first l.seen l.next l.left l.from
    × (l.queue.taken ≡ l.fn.queue.taken)
    × (l.queue.given ≡ l.fn.queue.given)

abbrev pub decreases-loop-place : goal.decreases-loop-place
decreases-loop-place g l = set.len l.left
