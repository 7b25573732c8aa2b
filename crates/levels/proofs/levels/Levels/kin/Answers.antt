-- The shelves tell it of the level.
use Rattle.std.proofs.Common.{◌≡◌, List, length, flat_map, sym, subst, arith}
use Rattle.std.specs.Prelude.{IfErr, IfOk}
use Rattle.cluster.specs.Clusters.{Cluster}
use Rattle.graphs.specs.Closures.{Closure}
use Rattle.graphs.specs.Graphs.{Lists}
use Rattle.graphs.specs.Unions.{IsKinOfSome}
use Rattle.levels.specs.Unions.{LieIn}
use Rattle.levels.proofs.Finds.{graph_is}
use Rattle.levels.proofs.Keeping.{few_kept}
use Rattle.levels.proofs.Kins.{needs_lie}
use Rattle.levels.proofs.levels.Levels.kin.Goals as goal

pub kin-requires : goal.kin-requires
kin-requires g c = (
  omega arith,
  (
    c.self.invariant.order,
    few_kept g.row.W c.self.inside.mains c.self.inside.tops c.self.inside.issued c.self.inside.shelves c.self.inside.rings c.self.invariant,
  ),
)

pub returns-clause-lists : goal.returns-clause-lists
returns-clause-lists g c =
    let is = graph_is g.row.W c.self.inside.issued c.self.inside.shelves c.args.self.now c.self.invariant.order c.self.view_is c.args.level in
    subst (λ (h : Closure). IfOk c.kin.result (λ _. Lists (IsKinOfSome c.args.kin h c.args.ids.now) c.kin.new.out.ids)) (sym is) c.kin.ensures.lists

pub returns-clause-needs : goal.returns-clause-needs
returns-clause-needs g c =
    let is = graph_is g.row.W c.self.inside.issued c.self.inside.shelves c.args.self.now c.self.invariant.order c.self.view_is c.args.level in
    subst (λ (h : Closure). IfErr c.kin.result (λ needs. (clusters : List Cluster) × LieIn h c.args.ids.now clusters
    × (needs ≡ length (flat_map (λ (d : Cluster). d.names) clusters)))) (sym is)
    (needs_lie g.row.W c.args.level c.self.inside.shelves c.self.invariant.order c.args.ids.now c.kin.result c.kin.ensures.needs)
