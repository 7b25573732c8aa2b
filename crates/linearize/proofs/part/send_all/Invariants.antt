use Rattle.std.proofs.Common.{◌*◌}
use Rattle.closure_flow.specs.Scratches.{flow_of}
use Rattle.linearize.specs.Orders.{flows_of}
use Rattle.linearize.proofs.FlowLists.{Sending}
use Rattle.linearize.proofs.part.send_all.Given as goal

abbrev pub invariant-loop-child : goal.invariant-loop-child
invariant-loop-child g l = Sending (64 * g.row.W) l.within (flows_of (64 * g.row.W) l.parents l.within (flow_of l.scratch))
    l.fn.draft l.draft l.yielded l.child-iterator
