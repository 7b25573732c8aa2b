use Rattle.std.proofs.Common.{rules, ◌<◌, length, subst, to_z-of_z, refl}
use Rattle.graphs.specs.Closures.{SetsFee}
use Rattle.dep_graph.proofs.Kept.{keeps, row_there, IsClosed-kept}
use Rattle.dep_graph.proofs.Changed.{fee_written_keeps, fee_written_is}
use Rattle.dep_graph.proofs.Reading.{row_there_lent}
use Rattle.dep_graph.proofs.graph.DepGraph.set_fee.Goals as goal

pub offset_bounds-deref_mut-place : goal.offset_bounds-deref_mut-place
offset_bounds-deref_mut-place g c =
    let low = row_there (keeps c.self.invariant c.self.view_is) c.args.place c.requires in
    let inside : c.args.place < length c.deref_mut.result.now = row_there_lent _ _ c.args.place c.deref_mut.ensures.value low in
    search rules fits 10000

pub bounds-deref_mut-place : goal.bounds-deref_mut-place
bounds-deref_mut-place g c =
    row_there_lent _ _ c.args.place c.deref_mut.ensures.value (row_there (keeps c.self.invariant c.self.view_is) c.args.place c.requires)

pub bounds-deref_mut-place-2 : goal.bounds-deref_mut-place-2
bounds-deref_mut-place-2 g c =
    row_there_lent _ _ c.args.place c.deref_mut.ensures.value (row_there (keeps c.self.invariant c.self.view_is) c.args.place c.requires)

pub invariant_of-self : goal.invariant_of-self
invariant_of-self g c =
    fee_written_keeps (keeps c.self.invariant c.self.view_is) c.args.place c.requires _ c.deref_mut.result.now c.deref_mut.ensures.value
    c.index-deref_mut-place.result c.index-deref_mut-place.is

pub returns-clause-fee : goal.returns-clause-fee
returns-clause-fee g c =
    subst (SetsFee c.args.self.now _ c.args.place) (to_z-of_z c.ranges.fee)
    (fee_written_is (keeps c.self.invariant c.self.view_is) c.args.place c.requires _ c.deref_mut.result.now c.deref_mut.ensures.value
    c.index-deref_mut-place.result c.index-deref_mut-place.is)

pub returns-clause-closed : goal.returns-clause-closed
returns-clause-closed g c = IsClosed-kept (keeps (invariant_of-self g c) refl)
