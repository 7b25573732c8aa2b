use Rattle.std.proofs.Common.{◌∙◌, ap, length, arith}
use Rattle.dep_graph.proofs.Kept.{keeps, row_there, rate_there, ancestors_there, descendants_there, IsClosed-kept}
use Rattle.dep_graph.proofs.Reading.{row_lent}
use Rattle.dep_graph.proofs.graph.DepGraph.row.Goals as goal

pub offset_bounds-deref-place : goal.offset_bounds-deref-place
offset_bounds-deref-place g c = omega (arith, row_there (keeps c.self.invariant c.self.view_is) c.args.place c.requires, ap length c.deref.ensures)

pub bounds-deref-place : goal.bounds-deref-place
bounds-deref-place g c = omega (arith, row_there (keeps c.self.invariant c.self.view_is) c.args.place c.requires, ap length c.deref.ensures)

pub returns-clause-rate : goal.returns-clause-rate
returns-clause-rate g c =
    ap (λ r. r.rate)
    (row_lent c.deref.result.now c.self.inside.rows.items c.args.place c.index-deref-place.result c.deref.ensures c.index-deref-place.is
    (row_there (keeps c.self.invariant c.self.view_is) c.args.place c.requires))
    ∙ rate_there (keeps c.self.invariant c.self.view_is) c.args.place c.requires

pub returns-clause-ancestors : goal.returns-clause-ancestors
returns-clause-ancestors g c =
    ap (λ r. r.ancestors)
    (row_lent c.deref.result.now c.self.inside.rows.items c.args.place c.index-deref-place.result c.deref.ensures c.index-deref-place.is
    (row_there (keeps c.self.invariant c.self.view_is) c.args.place c.requires))
    ∙ ancestors_there (keeps c.self.invariant c.self.view_is) c.args.place c.requires

pub returns-clause-descendants : goal.returns-clause-descendants
returns-clause-descendants g c =
    ap (λ r. r.descendants)
    (row_lent c.deref.result.now c.self.inside.rows.items c.args.place c.index-deref-place.result c.deref.ensures c.index-deref-place.is
    (row_there (keeps c.self.invariant c.self.view_is) c.args.place c.requires))
    ∙ descendants_there (keeps c.self.invariant c.self.view_is) c.args.place c.requires

pub returns-clause-closed : goal.returns-clause-closed
returns-clause-closed g c = IsClosed-kept (keeps c.self.invariant c.self.view_is)
