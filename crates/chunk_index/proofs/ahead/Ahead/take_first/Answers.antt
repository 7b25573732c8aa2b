use Rattle.std.proofs.Common.{◌<◌, sym, ◌∙◌, arith, length}
use Rattle.chunk_index.proofs.Walks.{part_first}
use Rattle.chunk_index.proofs.ahead.Ahead.take_first.Goals as goal

pub returns : goal.returns
returns c =
    let within : c.self.inside.next < length c.self.inside.entries = omega arith in
    sym c.self.view_is ∙ part_first c.self.inside.entries _ c.self.inside.next c.self.inside.filled (omega arith) within
