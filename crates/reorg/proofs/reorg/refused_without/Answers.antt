use Rattle.std.proofs.Common.{sym, ◌∙◌, true≢false}
use Rattle.reorg.proofs.Unmining.{without_staged, without_block}
use Rattle.reorg.proofs.reorg.refused_without.Goals as goal

pub returns-then-staged : goal.returns-then-staged
returns-then-staged g c = without_staged c.args.graph.now (λ state stands. (c.staged.ensures state stands).0 c.if-staged.true)

pub returns : goal.returns
returns g c = without_block c.args.graph.now (λ state stands is. true≢false (sym ((c.staged.ensures state stands).1 is) ∙ c.if-staged.false))
