-- The rings stay, and main is seen by its graph.
use Rattle.std.proofs.Common.{sym, ap, ◌∙◌, subst}
use Rattle.graphs.specs.Closures.{Closure}
use Rattle.graphs.specs.declared.names.Level.TheVariants.{Main}
use Rattle.levels.specs.Kept.{IsKept}
use Rattle.levels.specs.Mining.{MineRefusalIs}
use Rattle.levels.specs.Shelves.{Shelf, levels_of}
use Rattle.levels.proofs.Finds.{graph_is}
use Rattle.levels.proofs.Mined.{kept_still}
use Rattle.levels.proofs.levels.Levels.refused_mine.Goals as goal

pub invariant_of-self : goal.invariant_of-self
invariant_of-self g c =
    subst (λ (s : Shelf). IsKept g.row.W s c.refused_mine.new.rings c.self.inside.mains c.self.inside.tops c.self.inside.issued) (sym c.refused_mine.ensures.same)
    (kept_still g.row.W c.self.inside.shelves c.self.inside.rings c.refused_mine.new.rings c.self.inside.mains c.self.inside.tops c.self.inside.issued
    c.refused_mine.ensures.keeps c.self.invariant)

pub returns-clause-row : goal.returns-clause-row
returns-clause-row g c =
    subst (λ (k : Closure). MineRefusalIs k c.args.ids.now c.refused_mine.result)
    (sym (graph_is g.row.W c.self.inside.issued c.self.inside.shelves c.args.self.now c.self.invariant.order c.self.view_is Main))
    c.refused_mine.ensures.row

pub returns-clause-same : goal.returns-clause-same
returns-clause-same g c = ap (λ (s : Shelf). levels_of s c.self.inside.issued) c.refused_mine.ensures.same ∙ c.self.view_is
