use Rattle.plain_graph.proofs.Ways.{closed_more, closed_all}
use Rattle.std.proofs.Common.{rules}
use Rattle.plain_graph.proofs.walk.next_name.Goals as goal

pub loop-parent-preserved : goal.loop-parent-preserved
loop-parent-preserved c =
    closed_more c.args.way c.args.pairs.now c.args.ids.now c.loop-parent.parent-index _ (search rules) c.loop-parent.invariant c.in_default.ensures

pub returns : goal.returns
returns c = closed_all c.args.way c.args.pairs.now c.args.ids.now c.loop-parent.parent-index (search rules) c.loop-parent.invariant
