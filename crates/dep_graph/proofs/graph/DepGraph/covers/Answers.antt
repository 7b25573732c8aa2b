use Rattle.std.proofs.Common.{◌≡◌, ◌<◌, true, rules, ap, ◌∙◌, sym, subst}
use Rattle.std.specs.FinSet as fin
use Rattle.dep_graph.proofs.Covers.{CoversSoFar-start, CoversSoFar-more, middle_member, covers_are, fewer_come, none_come}
use Rattle.dep_graph.proofs.graph.DepGraph.covers.Goals as goal

pub remove-requires : goal.remove-requires
remove-requires g c = (search rules, c.row.ensures.closed.within c.args.place c.requires)

pub loop-middle-init : goal.loop-middle-init
loop-middle-init g c = CoversSoFar-start c.args.self.now c.remove.new.self

pub ancestors-further-requires : goal.ancestors-further-requires
ancestors-further-requires g c =
    let ups = c.remove.ensures ∙ ap (λ s. fin.remove s c.args.place) c.row.ensures.ancestors in (
      assumption,
      (
        search rules,
        middle_member c.row.ensures.closed c.args.place ups c.in-Some.middle
            (c.loop-middle.invariant.comes c.in-Some.middle c.in-Some.ensures.there),
      ),
    )

pub remove-requires-in-Some : goal.remove-requires-in-Some
remove-requires-in-Some g c = (search rules, c.in-Some.ensures.within c.in-Some.middle c.in-Some.ensures.there)

pub loop-middle-smaller : goal.loop-middle-smaller
loop-middle-smaller g c =
    let ups = c.remove.ensures ∙ ap (λ s. fin.remove s c.args.place) c.row.ensures.ancestors in
    let member =
    middle_member c.row.ensures.closed c.args.place ups c.in-Some.middle (c.loop-middle.invariant.comes c.in-Some.middle c.in-Some.ensures.there) in
    let own : fin.contains c.ancestors-further.result c.in-Some.middle ≡ true =
    ap (λ s. fin.contains s c.in-Some.middle) c.ancestors-further.ensures ∙ c.row.ensures.closed.order.reflexive c.in-Some.middle member in
    subst (λ s. fin.len s < fin.len c.loop-middle.to_come) (sym c.minus-to_come.ensures)
    (fewer_come c.loop-middle.to_come c.ancestors-further.result c.in-Some.middle c.in-Some.ensures.there own)

pub loop-middle-preserved : goal.loop-middle-preserved
loop-middle-preserved g c =
    CoversSoFar-more c.row.ensures.closed c.loop-middle.invariant c.in-Some.middle c.in-Some.ensures.there c.remove-in-Some.new.self
    c.minus-covers.result c.minus-to_come.result
    (c.minus-to_come.ensures ∙ ap (λ s. fin.difference c.loop-middle.to_come s) c.ancestors-further.ensures)
    (c.remove-in-Some.ensures ∙ ap (λ s. fin.remove s c.in-Some.middle) c.ancestors-further.ensures) c.minus-covers.ensures

pub returns : goal.returns
returns g c =
    let ups = c.remove.ensures ∙ ap (λ s. fin.remove s c.args.place) c.row.ensures.ancestors in
    covers_are c.row.ensures.closed c.args.place ups c.loop-middle.invariant
    (none_come c.greatest.result c.loop-middle.to_come c.greatest.ensures.there c.in_default.not-Some)
