-- The part of a name is one of its cluster.
use Rattle.std.proofs.Common.{◌≡◌, ◌≤◌, Contains, is_some, sym, ap, ◌∙◌, subst, arith}
use Rattle.std.proofs.lemmas.Option.{same_Some, slice_get_within}
use Rattle.graphs.specs.declared.names.Level.TheVariants.{Main}
use Rattle.graphs.specs.Certificates.{Part}
use Rattle.cluster_store.specs.Lent.{lent}
use Rattle.levels.specs.Shelves.{view_of}
use Rattle.levels.proofs.Graphs.{member-number}
use Rattle.levels.proofs.Places.{part_shown, part_there}
use Rattle.levels.proofs.Under.{held, live, seen_there}
use Rattle.levels.proofs.Oversizing.{ordered_there}
use Rattle.levels.proofs.Rooms.{cluster_fits}
use Rattle.levels.proofs.shelves.Shelves.chunk.Goals as goal

pub ordered_at-cluster-requires : goal.ordered_at-cluster-requires
ordered_at-cluster-requires g c =
    let narrow : g.row.W ≤ 2 = c.requires.order.narrow in
    let is = sym c.number.ensures.number ∙ c.in-Some.is in
    (omega arith, (cluster_fits g.row.W narrow, ordered_there g.row.W Main c.args.self.now c.requires.order c.requires.within c.args.id c.in-Some.number is))

pub part_of-requires : goal.part_of-requires
part_of-requires g c =
    let narrow : g.row.W ≤ 2 = c.requires.order.narrow in
    let is = sym c.number.ensures.number ∙ c.in-Some.is in
    let at = seen_there g.row.W c.args.self.now c.requires.order Main c.args.id c.in-Some.number is c.ordered_at-cluster.result.now c.ordered_at-cluster.ensures in
    (cluster_fits g.row.W narrow, held g.row.W c.args.self.now c.requires.order Main c.args.id c.in-Some.number is c.ordered_at-cluster.result.now at)

pub part-requires : goal.part-requires
part-requires g c =
    let narrow : g.row.W ≤ 2 = c.requires.order.narrow in
    (cluster_fits g.row.W narrow, slice_get_within c.ordered_at-cluster.result.now.parts c.part_of.result c.part_of.ensures.0 c.part_of.ensures.1)

pub returns-in-Some : goal.returns-in-Some
returns-in-Some g c =
    let is = sym c.number.ensures.number ∙ c.in-Some.is in
    let at = seen_there g.row.W c.args.self.now c.requires.order Main c.args.id c.in-Some.number is c.ordered_at-cluster.result.now c.ordered_at-cluster.ensures in
    let there = part_there g.row.W c.args.self.now c.requires.order Main (c.in-Some.number, c.part_of.result) c.ordered_at-cluster.result.now (lent c.part.result)
    at c.part.ensures in
    let same : c.part_of.ensures.0 ≡ lent c.part.result =
    same_Some c.part_of.ensures.0 (lent c.part.result) (sym c.part_of.ensures.1 ∙ c.part.ensures) in (
      live Main c.args.self.now c.args.id c.in-Some.number is,
      part_shown g.row.W c.args.self.now c.requires.order Main (c.in-Some.number, c.part_of.result) (lent c.part.result) there,
      subst (λ (p : Part). Contains p.ids c.args.id) same c.part_of.ensures.2,
    )

pub returns-in-None : goal.returns-in-None
returns-in-None g c = member-number (view_of Main c.args.self.now) c.args.id ∙ ap is_some (sym c.number.ensures.number ∙ c.in-None.is)
