use Rattle.std.proofs.Common.{arith}
use Rattle.chunk_index.proofs.Walks.{tree_first}
use Rattle.chunk_index.proofs.walk.TreeSpan.take_first.Goals as goal

pub returns : goal.returns
returns c =
    tree_first c.args.self.now.tree.now c.args.self.now.from c.args.self.now.to c.min-count.result 16 c.args.self.now.ahead c.read.new.self
    c.take_first-2.new.self c.take_first-2.result c.min-count.ensures (omega arith) (omega arith) c.in_default.ensures.0 c.read.ensures c.take_first-2.ensures
