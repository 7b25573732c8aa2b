use Rattle.std.proofs.Common.{◌≤◌, sym, ◌∙◌, arith, length}
use Rattle.chunk_index.proofs.Walks.{part_last}
use Rattle.chunk_index.proofs.ahead.Ahead.take_last.Goals as goal

pub returns : goal.returns
returns c =
    let within : c.self.inside.filled ≤ length c.self.inside.entries = omega arith in
    sym c.self.view_is ∙ part_last c.self.inside.entries _ c.self.inside.next c.self.inside.filled (omega arith) within
