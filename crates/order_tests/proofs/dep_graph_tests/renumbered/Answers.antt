use Rattle.std.proofs.Common.{rules, ◌≡◌, ◌*◌, ◌-◌, ◌^◌, ◌<◌, ◌++◌, ap, ◌∙◌, sym, refl, arith, cond}
use Rattle.std.specs.FinSet as fin
use Rattle.bitset.specs.Places.{places}
use Rattle.bitset.specs.Sets.{places-here, len-places}
use Rattle.dep_graph.proofs.Copying.{Numbering-start, Numbering-more, Numbering-all, room_left}
use Rattle.order_tests.proofs.dep_graph_tests.renumbered.Goals as goal
use Rattle.order_tests.proofs.dep_graph_tests.renumbered.Goals.{then-has, else-has}

pub loop-place-init : goal.loop-place-init
loop-place-init g c = Numbering-start (places (64 * g.row.W) c.args.within.now) c.args.first c.args.old.now _ _ c.empty-numbers.ensures
    (c.into_iter-place-iterator.ensures.into_iter_gives ∙ c.iter-place-items.ensures.places)

pub has-requires : goal.has-requires
has-requires g c = (
  search rules,
  (places-here (64 * g.row.W) c.args.within.now c.loop-place.yielded c.next.new.self c.in-Some.place
      (sym c.loop-place.invariant.split ∙ ap (λ xs. c.loop-place.yielded ++ xs) c.in-Some.ensures.steps)).0,
)

pub insert-requires : goal.insert-requires
insert-requires g c = (
  search rules,
  room_left (places (64 * g.row.W) c.args.within.now) c.args.first c.args.old.now c.loop-place.numbers c.loop-place.number (fin.len c.args.within.now)
      (64 * g.row.W) _ _ _ c.in-Some.place c.loop-place.invariant c.in-Some.ensures.steps
      (sym (len-places (64 * g.row.W) c.args.within.now c.iter-place-items.ensures.within)) c.requires.room,
)

pub overflow_add-number : goal.overflow_add-number
overflow_add-number g c =
    let low : c.loop-place.number < 2 ^ 64 - 1 =
    room_left (places (64 * g.row.W) c.args.within.now) c.args.first c.args.old.now c.loop-place.numbers c.loop-place.number
    (fin.len c.args.within.now) (2 ^ 64 - 1) _ _ _ c.in-Some.place c.loop-place.invariant c.in-Some.ensures.steps
    (sym (len-places (64 * g.row.W) c.args.within.now c.iter-place-items.ensures.within)) (omega (arith, c.requires.fits)) in
    search rules

pub loop-place-preserved : goal.loop-place-preserved
loop-place-preserved g c =
    Numbering-more (places (64 * g.row.W) c.args.within.now) c.args.first c.args.old.now
    _ _ _ _ _ _ _ c.in-Some.place c.loop-place.invariant c.in-Some.ensures.steps refl
    (elim c.if-has.branch as (λ _. c.if-has.numbers
    ≡ cond (fin.contains c.args.old.now c.in-Some.place) (fin.insert c.loop-place.numbers c.loop-place.number) c.loop-place.numbers) [
      | then-has w ↦ w.numbers-is ∙ w.insert.ensures
          ∙ sym (ap (λ b. cond b (fin.insert c.loop-place.numbers c.loop-place.number) c.loop-place.numbers) (sym c.has.ensures ∙ w.if-has.true))
      | else-has w ↦ w.numbers-is
          ∙ sym (ap (λ b. cond b (fin.insert c.loop-place.numbers c.loop-place.number) c.loop-place.numbers) (sym c.has.ensures ∙ w.if-has.false))
    ])

pub returns : goal.returns
returns g c = Numbering-all (places (64 * g.row.W) c.args.within.now) c.args.first c.args.old.now
    c.loop-place.numbers c.loop-place.number _ _ c.loop-place.invariant c.in-None.ensures.steps.0
