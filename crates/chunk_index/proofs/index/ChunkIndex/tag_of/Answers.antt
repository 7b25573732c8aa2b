use Rattle.std.proofs.Common.{sym, ◌∙◌}
use Rattle.chunk_index.proofs.Finds.{number-lacks}
use Rattle.chunk_index.proofs.Kept.{main-order, top-order}
use Rattle.chunk_index.proofs.Whole.{tag_fresh, told_listed}
use Rattle.chunk_index.proofs.index.ChunkIndex.tag_of.Goals as goal

pub tag_of-requires-clause-main : goal.tag_of-requires-clause-main
tag_of-requires-clause-main c = main-order c.self.invariant.listed

pub tag_of-requires-clause-top : goal.tag_of-requires-clause-top
tag_of-requires-clause-top c = top-order c.self.invariant.listed

pub returns-then-has : goal.returns-then-has
returns-then-has c = λ n tag at. tag_fresh c.self.invariant c.self.view_is c.args.key.now n tag (sym c.if-has.ensures) at

pub returns-else-has : goal.returns-else-has
returns-else-has c =
    λ n tag at. sym (c.tag_of.ensures
    ∙ told_listed c.self.invariant c.self.view_is c.args.key.now n tag at (number-lacks c.self.inside.fresh c.args.key.now (sym c.if-has.ensures)))
