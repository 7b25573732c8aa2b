use Rattle.std.proofs.Common.{arith}
use Rattle.chunk_index.proofs.Parts.{part_next, part_prev}
use Rattle.chunk_index.proofs.part.Part.take.Goals as goal

pub returns-in-First : goal.returns-in-First
returns-in-First c =
    rw c.in-First.is (part_next c.args.self.now.tree.now c.get-entry.result c.args.self.now.from c.args.self.now.to (omega arith) (omega arith)
    c.get-entry.ensures)

pub returns-in-Last : goal.returns-in-Last
returns-in-Last c =
    rw c.in-Last.is (part_prev c.args.self.now.tree.now c.get.result c.args.self.now.from c.args.self.now.to (omega arith) (omega arith)
    c.get.ensures)
