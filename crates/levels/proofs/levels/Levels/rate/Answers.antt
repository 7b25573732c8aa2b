-- A name has the fee and size that its cluster has of it.
use Rattle.std.proofs.Common.{◌≡◌, ◌*◌, Contains, is_some, sym, ap, ◌∙◌, arith, subst}
use Rattle.std.proofs.lemmas.Option.{same_Some}
use Rattle.graphs.specs.Closures.{Closure, rate_of}
use Rattle.cluster.specs.Clusters.{Cluster}
use Rattle.levels.specs.Shelves.{view_of}
use Rattle.levels.proofs.Finds.{graph_is, indexed_at, member_is}
use Rattle.levels.proofs.Graphs.{rate_in_cluster}
use Rattle.levels.proofs.Rooms.{record_fits}
use Rattle.levels.proofs.Seen.{seen_is_stored}
use Rattle.levels.proofs.levels.Levels.rate.Goals as goal

pub at-requires : goal.at-requires
at-requires g c =
    let at = c.in-Some.ensures.stands in (
      omega arith,
      (
        record_fits g.row.W c.self.invariant.order.narrow,
        ap is_some (seen_is_stored c.args.level c.self.inside.shelves.store.clusters c.in-Some.number at.0 at.1),
      ),
    )

pub rate-requires : goal.rate-requires
rate-requires g c =
    let at = c.in-Some.ensures.stands in
    let same : at.0 ≡ c.at.result.now =
    same_Some at.0 c.at.result.now (sym (seen_is_stored c.args.level c.self.inside.shelves.store.clusters c.in-Some.number at.0 at.1) ∙ c.at.ensures) in
    (record_fits g.row.W c.self.invariant.order.narrow, subst (λ (d : Cluster). Contains d.names c.args.id) same at.2)

pub returns-in-Some : goal.returns-in-Some
returns-in-Some g c =
    let at = c.in-Some.ensures.stands in
    let shelf = c.self.inside.shelves in
    let order = c.self.invariant.order in
    let same : at.0 ≡ c.at.result.now =
    same_Some at.0 c.at.result.now (sym (seen_is_stored c.args.level shelf.store.clusters c.in-Some.number at.0 at.1) ∙ c.at.ensures) in (
      member_is g.row.W c.self.inside.issued c.self.inside.shelves c.args.self.now c.self.invariant.order c.self.view_is c.args.level c.args.id ∙ ap is_some (sym c.in-Some.ensures.number),
      c.rate.ensures ∙ ap (λ (d : Cluster). rate_of d.graph c.args.id) (sym same)
          ∙ sym (rate_in_cluster (64 * g.row.W) (view_of c.args.level shelf) (indexed_at g.row.W shelf order c.args.level) c.in-Some.number c.args.id at.0 at.1 at.2)
          ∙ ap (λ (h : Closure). rate_of h c.args.id) (sym (graph_is g.row.W c.self.inside.issued c.self.inside.shelves c.args.self.now c.self.invariant.order c.self.view_is c.args.level)),
    )

pub returns-in-None : goal.returns-in-None
returns-in-None g c = member_is g.row.W c.self.inside.issued c.self.inside.shelves c.args.self.now c.self.invariant.order c.self.view_is c.args.level c.args.id ∙ ap is_some (sym c.in-None.ensures.number)
