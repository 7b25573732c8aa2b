-- The clusters under the numbers are the components.
use Rattle.std.proofs.Common.{◌∙◌, sym, subst, arith}
use Rattle.graphs.specs.Closures.{Closure}
use Rattle.levels.specs.Unions.{LieIn}
use Rattle.levels.proofs.Finds.{graph_is}
use Rattle.levels.proofs.Keeping.{few_kept}
use Rattle.levels.proofs.Kins.{lie_in}
use Rattle.levels.proofs.levels.Levels.count_clusters.Goals as goal

pub count_clusters-requires : goal.count_clusters-requires
count_clusters-requires g c = (
  omega arith,
  (
    c.self.invariant.order,
    few_kept g.row.W c.self.inside.mains c.self.inside.tops c.self.inside.issued c.self.inside.shelves c.self.inside.rings c.self.invariant,
  ),
)

pub returns-clause-count : goal.returns-clause-count
returns-clause-count g c =
    let is = graph_is g.row.W c.self.inside.issued c.self.inside.shelves c.args.self.now c.self.invariant.order c.self.view_is c.args.level in
    let (numbers, under, count) = c.count_clusters.ensures.count in
    let (clusters, lie, many, names) = lie_in g.row.W c.args.level c.self.inside.shelves c.self.invariant.order c.args.ids.now numbers under in
    (clusters, subst (λ (h : Closure). LieIn h c.args.ids.now clusters) (sym is) lie, count ∙ sym many)
