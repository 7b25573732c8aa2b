use Rattle.plain_graph.proofs.Puts.{child_of}
use Rattle.plain_graph.proofs.pairs.cross.Goals as goal

pub returns-in_ok-put : goal.returns-in_ok-put
returns-in_ok-put c =
    child_of c.args.id c.args.parent c.args.from c.args.to c.args.list.now.items c.put.new.list.items c.if-from-id.true c.if-to-id.true c.in_ok-put.ensures
