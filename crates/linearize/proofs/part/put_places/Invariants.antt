use Rattle.std.proofs.Common.{◌≡◌, ◌*◌}
use Rattle.std.specs.FinSet as fin
use Rattle.linearize.proofs.Orders.{Placing}
use Rattle.linearize.proofs.part.put_places.Given as goal

abbrev pub invariant-loop-first : goal.invariant-loop-first
invariant-loop-first g l =
    Placing (64 * g.row.W) l.dep l.within l.left l.draft.ids × (l.draft.parts ≡ l.fn.draft.parts) × (l.draft.flows ≡ l.fn.draft.flows)

abbrev pub decreases-loop-first : goal.decreases-loop-first
decreases-loop-first g l = fin.len l.left
