use Rattle.std.proofs.Common.{rules, ◌≡◌, ◌*◌, ◌∙◌, ap, subst, true}
use Rattle.std.specs.FinSet as fin
use Rattle.bitset.specs.Members.{from_meet, from_remove}
use Rattle.linearize.proofs.Orders.{higher, is_top}
use Rattle.linearize.proofs.Sizes.{words_fit}
use Rattle.linearize.proofs.part.top.Goals as goal

pub ancestors-requires : goal.ancestors-requires
ancestors-requires g c = (search rules, (words_fit g.row.W c.requires.narrow, c.requires.members _ c.loop-next.invariant))

pub remove-requires : goal.remove-requires
remove-requires g c = (words_fit g.row.W c.requires.narrow, c.requires.closed.within _ (c.requires.members _ c.loop-next.invariant))

pub loop-next-preserved : goal.loop-next-preserved
loop-next-preserved g c =
    let m : fin.contains (fin.remove c.meet-above.result c.loop-next.place) c.in-Some.next ≡ true =
    subst (λ s. fin.contains s c.in-Some.next ≡ true) c.remove.ensures c.in-Some.ensures.least.member in
    (from_meet _ _ _ (subst (λ s. fin.contains s c.in-Some.next ≡ true) c.meet-above.ensures (from_remove _ _ _ m).1)).1

pub loop-next-smaller : goal.loop-next-smaller
loop-next-smaller g c =
    higher (64 * g.row.W) c.args.dep.now c.args.left.now c.loop-next.place c.in-Some.next c.requires.closed c.loop-next.invariant
    (subst (λ s. fin.contains s c.in-Some.next ≡ true)
    (c.remove.ensures ∙ ap (λ s. fin.remove s c.loop-next.place)
    (c.meet-above.ensures ∙ ap (λ s. fin.intersection s c.args.left.now) c.ancestors.ensures)) c.in-Some.ensures.least.member)

pub returns-in-None-clause-top : goal.returns-in-None-clause-top
returns-in-None-clause-top g c =
    is_top c.args.dep.now c.args.left.now c.remove.new.self c.loop-next.place
    (c.remove.ensures ∙ ap (λ s. fin.remove s c.loop-next.place)
    (c.meet-above.ensures ∙ ap (λ s. fin.intersection s c.args.left.now) c.ancestors.ensures)) c.in-None.ensures.least
