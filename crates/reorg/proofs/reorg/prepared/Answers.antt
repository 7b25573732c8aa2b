use Rattle.std.proofs.Common.{lit<, ◌≡◌, sym, subst}
use Rattle.tx_graph.specs.Kept.{Kept}
use Rattle.reorg.specs.Blocks.{AreNamesOf, IsBlockOf}
use Rattle.reorg.proofs.Blocks.{may_mine}
use Rattle.reorg.proofs.reorg.prepared.Goals as goal

pub block_of-requires : goal.block_of-requires
block_of-requires g c =
    let ids = c.args.ids.now in (
      lit< tt,
      subst (λ (k : Kept). AreNamesOf k.levels.main.graph ids) (sym c.minable.ensures.same)
          (may_mine c.args.graph.now ids c.additions-stands.ensures.stands c.in_default.ensures.row),
    )

pub returns-in-Ok-clause-block : goal.returns-in-Ok-clause-block
returns-in-Ok-clause-block g c =
    let ids = c.args.ids.now in (
      may_mine c.args.graph.now ids c.additions-stands.ensures.stands c.in_default.ensures.row,
      subst (λ (k : Kept). IsBlockOf k.levels.main.graph ids c.in-Ok.block) c.minable.ensures.same c.in-Ok.ensures,
    )
