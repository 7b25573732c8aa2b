use Rattle.std.proofs.Common.{◌*◌, ◌∙◌, ap, sym, subst, arith, length, length-append, lit<}
use Rattle.std.specs.FinSet as fin
use Rattle.lists.proofs.Keys.{set_drop}
use Rattle.bitset.specs.Places.{IsWithin}
use Rattle.linearize.specs.Drafts.{placed}
use Rattle.linearize.proofs.Orders.{Placing, placing_more, placing_all}
use Rattle.linearize.proofs.part.put_places.Goals as goal

pub put-requires : goal.put-requires
put-requires g c =
    let i = c.loop-first.invariant in
    let within : IsWithin (64 * g.row.W) c.loop-first.left = λ k m. c.requires.closed.within k (c.requires.members k (i.0.inside k m)) in
    let some = set_drop c.loop-first.left c.top-place.result c.top-place.ensures.there in
    let parts = ap (λ ps. length (placed ps)) i.1 in
    let long = length-append (placed c.loop-first.draft.parts) c.loop-first.draft.ids in (
      lit< tt,
      omega (arith, some, parts, long, i.0.count, c.requires.room),
    )

pub loop-first-smaller : goal.loop-first-smaller
loop-first-smaller g c =
    let i = c.loop-first.invariant in
    let within : IsWithin (64 * g.row.W) c.loop-first.left = λ k m. c.requires.closed.within k (c.requires.members k (i.0.inside k m)) in
    let some = set_drop c.loop-first.left c.top-place.result c.top-place.ensures.there in
    let is = ap (λ s. fin.len s) c.remove.ensures in
    omega (arith, some, is)

pub loop-first-preserved : goal.loop-first-preserved
loop-first-preserved g c =
    let i = c.loop-first.invariant in
    let within : IsWithin (64 * g.row.W) c.args.within.now = λ k m. c.requires.closed.within k (c.requires.members k m) in (
      subst (λ xs. Placing (64 * g.row.W) c.args.dep.now c.args.within.now c.remove.new.self xs) (sym (ap (λ w. w.ids) c.put.ensures))
          (placing_more (64 * g.row.W) c.args.dep.now c.args.within.now c.loop-first.left c.remove.new.self c.loop-first.draft.ids c.top-place.result
          within i.0 c.top-place.ensures.there c.top-place.ensures.top c.remove.ensures),
      ap (λ w. w.parts) c.put.ensures ∙ i.1,
      ap (λ w. w.flows) c.put.ensures ∙ i.2,
    )

pub returns-clause-order : goal.returns-clause-order
returns-clause-order g c =
    (placing_all (64 * g.row.W) c.args.dep.now c.args.within.now c.loop-first.left c.loop-first.draft.ids c.loop-first.invariant.0 c.in_default.ensures.least).0

pub returns-clause-count : goal.returns-clause-count
returns-clause-count g c =
    (placing_all (64 * g.row.W) c.args.dep.now c.args.within.now c.loop-first.left c.loop-first.draft.ids c.loop-first.invariant.0 c.in_default.ensures.least).1
