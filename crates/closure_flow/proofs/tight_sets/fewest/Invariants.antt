use Rattle.std.proofs.Common.{◌≡◌, ◌+◌, ◌*◌, ◌≤◌}
use Rattle.std.specs.FinSet as set
use Rattle.closure_flow.specs.Views.{shown_in}
use Rattle.closure_flow.proofs.TightSets.{Seeking}
use Rattle.closure_flow.proofs.tight_sets.fewest.Given as goal

abbrev pub invariant-loop-place : goal.invariant-loop-place
invariant-loop-place g l =
    Seeking (64 * g.row.W) l.parents l.within (shown_in l.network) l.best l.left
    × (l.fn.steps ≤ l.steps)
    × (l.steps + l.fn.queue.given ≡ l.fn.steps + l.queue.given)
    × (l.steps + set.len l.left * set.len l.within ≤ l.fn.steps + set.len l.within * set.len l.within)

abbrev pub decreases-loop-place : goal.decreases-loop-place
decreases-loop-place g l = set.len l.left
