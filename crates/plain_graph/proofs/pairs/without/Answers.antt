use Rattle.std.proofs.Common.{[]}
use Rattle.plain_graph.proofs.Puts.{left_start, left_more, left_all}
use Rattle.plain_graph.proofs.pairs.without.Goals as goal

pub loop-parent-init : goal.loop-parent-init
loop-parent-init c = rw c.new-list.ensures.items (left_start c.args.pairs.now c.args.id [])

pub loop-parent-preserved : goal.loop-parent-preserved
loop-parent-preserved c = left_more c.args.pairs.now c.loop-parent.parent-index _ c.args.id [] c.loop-parent.list.items
    c.carry.new.list.items c.loop-parent-test.true c.loop-parent.invariant c.in_ok-carry.ensures

pub returns : goal.returns
returns c = left_all c.args.pairs.now c.loop-parent.parent-index c.args.id c.loop-parent.list.items c.loop-parent-test.false c.loop-parent.invariant
