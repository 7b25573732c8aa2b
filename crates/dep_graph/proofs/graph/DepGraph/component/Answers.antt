use Rattle.std.proofs.Common.{rules, ap, ap₂, ◌∙◌}
use Rattle.std.specs.FinSet as fin
use Rattle.dep_graph.proofs.Components.{Searched-start, Searched-more, Searched-all, left_there, fewer_left, none_left}
use Rattle.dep_graph.proofs.graph.DepGraph.component.Goals as goal

pub row-requires : goal.row-requires
row-requires g c = (search rules, (search rules, c.requires.members c.args.place c.requires.place))

pub loop-next-init : goal.loop-next-init
loop-next-init g c =
    Searched-start c.row.ensures.closed c.args.within c.args.place _ _ c.requires.members c.requires.place
    (c.meet-reached.ensures ∙ ap (λ s. fin.intersection s c.args.within) c.row.ensures.ancestors) c.empty-done.ensures

pub row-row-requires : goal.row-row-requires
row-row-requires g c =
    let here = left_there c.in-Some.next c.loop-next.invariant c.minus.ensures c.in-Some.ensures.least.member in
    (search rules, (search rules, c.requires.members c.in-Some.next here.2))

pub loop-next-smaller : goal.loop-next-smaller
loop-next-smaller g c =
    let here = left_there c.in-Some.next c.loop-next.invariant c.minus.ensures c.in-Some.ensures.least.member in
    fewer_left c.args.within c.loop-next.done c.insert.new.self c.in-Some.next here.2 here.1 c.insert.ensures

pub loop-next-preserved : goal.loop-next-preserved
loop-next-preserved g c =
    Searched-more c.row.ensures.closed c.args.within c.args.place c.in-Some.next c.loop-next.invariant c.minus.ensures c.in-Some.ensures.least.member
    c.union-reached.result c.insert.new.self c.meet-near.result c.insert.ensures
    (c.meet-near.ensures ∙ ap (λ s. fin.intersection s c.args.within)
    (c.union.ensures ∙ ap₂ fin.union c.row-row.ensures.ancestors c.row-row.ensures.descendants))
    c.union-reached.ensures

pub returns : goal.returns
returns g c =
    Searched-all c.row.ensures.closed c.args.within c.args.place c.loop-next.invariant c.minus.ensures
    (none_left c.least.result c.minus.result c.least.ensures.least c.in_default.not-Some)
