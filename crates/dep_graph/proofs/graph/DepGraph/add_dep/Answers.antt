use Rattle.std.proofs.Common.{rules, ◌*◌, length, ap, ◌∙◌, subst, sym, refl, arith}
use Rattle.graphs.specs.Closures.{AddsPair}
use Rattle.dep_graph.specs.Rows.{IsKept, graph_from}
use Rattle.dep_graph.specs.Changes.{ChangesAt, gives_ancestors}
use Rattle.dep_graph.proofs.Kept.{keeps, ups_within, downs_within, IsClosed-kept}
use Rattle.dep_graph.proofs.Changed.{pair_keeps, pair_is}
use Rattle.dep_graph.proofs.Reading.{refilled}
use Rattle.dep_graph.proofs.graph.DepGraph.add_dep.Goals as goal

pub give_ancestors-requires : goal.give_ancestors-requires
give_ancestors-requires g c =
    let downs = downs_within (keeps c.self.invariant c.self.view_is) c.args.child c.requires.child c.descendants-below.ensures in
    (search rules, (search rules, λ p e. omega (arith, downs p e, ap length c.as_mut_slice-rows.ensures.value)))

pub give_descendants-requires : goal.give_descendants-requires
give_descendants-requires g c =
    let ups = ups_within (keeps c.self.invariant c.self.view_is) c.args.parent c.requires.parent c.ancestors-above.ensures in
    (search rules, (search rules, λ p e. omega (arith, ups p e, c.give_ancestors.ensures.long, ap length c.as_mut_slice-rows.ensures.value)))

pub invariant_of-self : goal.invariant_of-self
invariant_of-self g c =
    let rows = c.self.inside.rows.items in
    let first : ChangesAt (gives_ancestors c.ancestors-above.result) c.descendants-below.result rows c.give_ancestors.new.rows =
    subst (λ xs. ChangesAt (gives_ancestors c.ancestors-above.result) c.descendants-below.result xs c.give_ancestors.new.rows)
    c.as_mut_slice-rows.ensures.value c.give_ancestors.ensures in
    subst (IsKept (64 * g.row.W) c.self.inside.members)
    (sym (refilled (length rows) rows c.give_descendants.new.rows refl (c.give_descendants.ensures.long ∙ first.long)))
    (pair_keeps (keeps c.self.invariant c.self.view_is) c.args.parent c.args.child c.requires.parent c.requires.child c.requires.no_cycle
    c.ancestors-above.ensures c.descendants-below.ensures first c.give_descendants.ensures)

pub returns-clause-pair : goal.returns-clause-pair
returns-clause-pair g c =
    let rows = c.self.inside.rows.items in
    let first : ChangesAt (gives_ancestors c.ancestors-above.result) c.descendants-below.result rows c.give_ancestors.new.rows =
    subst (λ xs. ChangesAt (gives_ancestors c.ancestors-above.result) c.descendants-below.result xs c.give_ancestors.new.rows)
    c.as_mut_slice-rows.ensures.value c.give_ancestors.ensures in
    subst (λ xs. AddsPair c.args.self.now (graph_from (64 * g.row.W) c.self.inside.members xs) c.args.parent c.args.child)
    (sym (refilled (length rows) rows c.give_descendants.new.rows refl (c.give_descendants.ensures.long ∙ first.long)))
    (pair_is (keeps c.self.invariant c.self.view_is) c.args.parent c.args.child c.requires.parent c.requires.child c.requires.no_cycle
    c.ancestors-above.ensures c.descendants-below.ensures first c.give_descendants.ensures)

pub returns-clause-closed : goal.returns-clause-closed
returns-clause-closed g c = IsClosed-kept (keeps (invariant_of-self g c) refl)
