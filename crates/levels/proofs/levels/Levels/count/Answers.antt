use Rattle.std.proofs.Common.{sym, ap, ◌∙◌}
use Rattle.std.specs.FinMap as finmap
use Rattle.graphs.specs.declared.names.Level.{Level}
use Rattle.graphs.specs.declared.names.Level.TheVariants.{Main, Top}
use Rattle.levels.specs.Levels.{level_at}
use Rattle.levels.proofs.Keeping.{level_len}
use Rattle.levels.proofs.levels.Levels.count.Goals as goal

pub returns-in-Main : goal.returns-in-Main
returns-in-Main g c =
    c.self.invariant.mains ∙ level_len g.row.W c.self.inside.issued c.self.inside.shelves c.args.self.now c.self.invariant.order c.self.view_is Main
    ∙ ap (λ (level : Level). finmap.len (level_at c.args.self.now level).graph) (sym c.in-Main.is)

pub returns-in-Top : goal.returns-in-Top
returns-in-Top g c =
    c.self.invariant.tops ∙ level_len g.row.W c.self.inside.issued c.self.inside.shelves c.args.self.now c.self.invariant.order c.self.view_is Top
    ∙ ap (λ (level : Level). finmap.len (level_at c.args.self.now level).graph) (sym c.in-Top.is)
