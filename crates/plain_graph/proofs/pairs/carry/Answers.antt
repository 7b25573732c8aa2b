use Rattle.plain_graph.proofs.Puts.{left_of_child, left_of_neither, on_ok}
use Rattle.plain_graph.proofs.pairs.carry.Goals as goal

pub returns-then-child-id : goal.returns-then-child-id
returns-then-child-id c = on_ok c.join.result (left_of_child c.args.pairs.now c.args.id c.args.parent c.args.child
    c.args.list.now.items c.join.new.list.items c.if-parent-id.false c.if-child-id.true) c.join.ensures

pub returns : goal.returns
returns c = on_ok c.put.result (left_of_neither c.args.pairs.now c.args.id c.args.parent c.args.child
    c.args.list.now.items c.put.new.list.items c.if-parent-id.false c.if-child-id.false) c.put.ensures
