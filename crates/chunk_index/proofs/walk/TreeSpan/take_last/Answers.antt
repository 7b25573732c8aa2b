use Rattle.std.proofs.Common.{arith}
use Rattle.chunk_index.proofs.Walks.{tree_last}
use Rattle.chunk_index.proofs.walk.TreeSpan.take_last.Goals as goal

pub returns : goal.returns
returns c =
    tree_last c.args.self.now.tree.now c.args.self.now.from c.args.self.now.to c.args.self.now.ahead c.get.result (omega arith) (omega arith) c.get.ensures
