use Rattle.std.proofs.Common.{rules, ◌≡◌, ◌*◌, is_some, sym, ap, ◌∙◌, subst}
use Rattle.std.proofs.lemmas.Option.{same_Some}
use Rattle.cluster.specs.Clusters.{Cluster, IsCluster}
use Rattle.levels.specs.Levels.{level_at}
use Rattle.levels.specs.Views.{IsClusterOf}
use Rattle.levels.proofs.Finds.{cluster_is, member_is, whole_at, within_at}
use Rattle.levels.proofs.Oversizing.{ordered_there, some_parts}
use Rattle.levels.proofs.Seen.{seen_is_stored}
use Rattle.levels.proofs.levels.Levels.find.Goals as goal

pub returns-in-Some : goal.returns-in-Some
returns-in-Some g c =
    let number = c.in-Some.number in
    let at = c.in-Some.ensures.stands in
    let clusters = c.self.inside.shelves.store.clusters in
    let same : at.0 ≡ c.ordered_at.result.now =
    same_Some at.0 c.ordered_at.result.now (sym (seen_is_stored c.args.level clusters number at.0 at.1) ∙ c.ordered_at.ensures) in (
      member_is g.row.W c.self.inside.issued c.self.inside.shelves c.args.self.now c.self.invariant.order c.self.view_is c.args.level c.args.id
          ∙ ap is_some (sym c.in-Some.ensures.number),
      subst (λ (k : Cluster). IsClusterOf (level_at c.args.self.now c.args.level).graph c.args.id k) same
          (cluster_is g.row.W c.self.inside.issued c.self.inside.shelves c.args.self.now
          c.self.invariant.order c.self.view_is c.args.level number c.args.id at.0 at.1 at.2),
      subst (λ (k : Cluster). IsCluster (64 * g.row.W) k) same
          ((whole_at g.row.W c.self.inside.issued c.self.inside.shelves c.args.self.now c.self.invariant.order c.self.view_is c.args.level number at.0 at.1).ordered
          (some_parts g.row.W c.args.level c.self.inside.shelves c.self.invariant.order
          (within_at g.row.W c.self.inside.issued c.self.inside.shelves c.args.self.now c.self.invariant.order c.self.view_is c.args.level c.requires) number at.0 at.1)),
    )

pub returns-in-None : goal.returns-in-None
returns-in-None g c = member_is g.row.W c.self.inside.issued c.self.inside.shelves c.args.self.now c.self.invariant.order c.self.view_is c.args.level c.args.id
    ∙ ap is_some (sym c.in-None.ensures.number)

pub ordered_at-requires : goal.ordered_at-requires
ordered_at-requires g c = (
  search rules,
  (
    search rules,
    ordered_there g.row.W c.args.level c.self.inside.shelves c.self.invariant.order
        (within_at g.row.W c.self.inside.issued c.self.inside.shelves c.args.self.now c.self.invariant.order c.self.view_is c.args.level c.requires) c.args.id c.in-Some.number (sym c.in-Some.ensures.number),
  ),
)
