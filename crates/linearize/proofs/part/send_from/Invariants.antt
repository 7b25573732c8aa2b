use Rattle.std.proofs.Common.{◌*◌}
use Rattle.closure_flow.specs.Scratches.{flow_of}
use Rattle.linearize.specs.Orders.{flows_from}
use Rattle.linearize.proofs.FlowLists.{Sending}
use Rattle.linearize.proofs.part.send_from.Given as goal

abbrev pub invariant-loop-parent : goal.invariant-loop-parent
invariant-loop-parent g l = Sending (64 * g.row.W) l.to (flows_from (flow_of l.scratch) l.child) l.fn.draft l.draft l.yielded l.parent-iterator
