use Rattle.plain_graph.proofs.Puts.{child_start, child_more, child_all}
use Rattle.plain_graph.proofs.pairs.join.Goals as goal

pub loop-from-init : goal.loop-from-init
loop-from-init c = child_start c.args.id c.args.parent c.args.list.now.items

pub loop-from-preserved : goal.loop-from-preserved
loop-from-preserved c = child_more c.args.pairs.now c.loop-from.from-index _ c.args.id c.args.parent c.args.list.now.items
    c.loop-from.list.items c.cross.new.list.items c.loop-from-test.true c.loop-from.invariant c.in_ok-cross.ensures

pub returns : goal.returns
returns c = child_all c.args.pairs.now c.loop-from.from-index c.args.id c.args.parent
    c.args.list.now.items c.loop-from.list.items c.loop-from-test.false c.loop-from.invariant
