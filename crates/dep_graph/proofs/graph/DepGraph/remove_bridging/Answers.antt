use Rattle.std.proofs.Common.{rules, ◌*◌, length, ap, ◌∙◌, subst, sym, refl, arith}
use Rattle.graphs.specs.Closures.{DropsPlace}
use Rattle.dep_graph.specs.Rows.{IsKept, graph_from}
use Rattle.dep_graph.specs.Changes.{ChangesAt, takes_ancestor}
use Rattle.dep_graph.proofs.Kept.{keeps, place_there, ups_within, downs_within, IsClosed-kept}
use Rattle.dep_graph.proofs.Changed.{drop_keeps, drop_is}
use Rattle.dep_graph.proofs.Reading.{refilled}
use Rattle.dep_graph.proofs.graph.DepGraph.remove_bridging.Goals as goal

pub take_ancestor-requires : goal.take_ancestor-requires
take_ancestor-requires g c =
    let k = keeps c.self.invariant c.self.view_is in
    let downs = downs_within k c.args.place c.requires c.descendants-below.ensures in
    (search rules, (search rules, (λ p e. omega (arith, downs p e, ap length c.as_mut_slice-rows.ensures.value), place_there k c.args.place c.requires)))

pub take_descendant-requires : goal.take_descendant-requires
take_descendant-requires g c =
    let k = keeps c.self.invariant c.self.view_is in
    let ups = ups_within k c.args.place c.requires c.ancestors-above.ensures in (
      search rules,
      (
        search rules,
        (λ p e. omega (arith, ups p e, c.take_ancestor.ensures.long, ap length c.as_mut_slice-rows.ensures.value), place_there k c.args.place c.requires),
      ),
    )

pub remove-requires : goal.remove-requires
remove-requires g c = (search rules, place_there (keeps c.self.invariant c.self.view_is) c.args.place c.requires)

pub invariant_of-self : goal.invariant_of-self
invariant_of-self g c =
    let rows = c.self.inside.rows.items in
    let first : ChangesAt (takes_ancestor c.args.place) c.descendants-below.result rows c.take_ancestor.new.rows =
    subst (λ xs. ChangesAt (takes_ancestor c.args.place) c.descendants-below.result xs c.take_ancestor.new.rows)
    c.as_mut_slice-rows.ensures.value c.take_ancestor.ensures in
    subst (IsKept (64 * g.row.W) c.remove.new.self)
    (sym (refilled (length rows) rows c.take_descendant.new.rows refl (c.take_descendant.ensures.long ∙ first.long)))
    (drop_keeps (keeps c.self.invariant c.self.view_is) c.args.place c.requires c.ancestors-above.ensures c.descendants-below.ensures
    first c.take_descendant.ensures c.remove.ensures)

pub returns-clause-dropped : goal.returns-clause-dropped
returns-clause-dropped g c =
    let rows = c.self.inside.rows.items in
    let first : ChangesAt (takes_ancestor c.args.place) c.descendants-below.result rows c.take_ancestor.new.rows =
    subst (λ xs. ChangesAt (takes_ancestor c.args.place) c.descendants-below.result xs c.take_ancestor.new.rows)
    c.as_mut_slice-rows.ensures.value c.take_ancestor.ensures in
    subst (λ xs. DropsPlace c.args.self.now (graph_from (64 * g.row.W) c.remove.new.self xs) c.args.place)
    (sym (refilled (length rows) rows c.take_descendant.new.rows refl (c.take_descendant.ensures.long ∙ first.long)))
    (drop_is (keeps c.self.invariant c.self.view_is) c.args.place c.requires c.ancestors-above.ensures c.descendants-below.ensures
    first c.take_descendant.ensures c.remove.ensures)

pub returns-clause-closed : goal.returns-clause-closed
returns-clause-closed g c = IsClosed-kept (keeps (invariant_of-self g c) refl)
