use Rattle.std.proofs.Common.{rules, ◌≡◌, ◌+◌, ◌*◌, ◌<◌, ℕ, ap, sym, subst, arith, lit<, true}
use Rattle.std.specs.FinSet as fin
use Rattle.bitset.specs.Members.{minus_parts}
use Rattle.linearize.specs.Splits.{Adds, HasRoom}
use Rattle.linearize.specs.Steps.{AreOfOne}
use Rattle.linearize.proofs.Joined.{both_lens, first_room, second_room, both_added}
use Rattle.linearize.proofs.Nexts.{when_none}
use Rattle.linearize.proofs.Places.{covers_within}
use Rattle.linearize.proofs.Sizes.{words_fit, scratch_fits}
use Rattle.linearize.proofs.Solves.{at_least_both, at_least_one}
use Rattle.linearize.proofs.Trials.{once_most, solve_most, cut_most}
use Rattle.linearize.proofs.split.split_once.Goals as goal

pub best-requires : goal.best-requires
best-requires g c = (
  scratch_fits g.row.W c.requires.narrow,
  (search rules, (words_fit g.row.W c.requires.narrow, (lit< tt, (c.requires.narrow, (c.requires.ready, c.requires.weights))))),
)

pub minus-rest-requires : goal.minus-rest-requires
minus-rest-requires g c = words_fit g.row.W c.requires.narrow

pub returns-in_default-clause-most : goal.returns-in_default-clause-most
returns-in_default-clause-most g c = once_most _ _ _ _ _ c.requires.ready.some c.best.ensures.solve

pub best-requires-2 : goal.best-requires-2
best-requires-2 g c =
    let n : ℕ = 64 * g.row.W in
    let r = c.requires.ready in
    let cut = c.in-Some.ensures.cut in
    let dep = c.args.dep.now in
    let s = c.args.within.now in
    let first = c.in-Some.first in
    let lens : fin.len s ≡ fin.len first + fin.len (fin.difference s first) = both_lens n dep s first r.closed r.members r.rates cut in (
      scratch_fits g.row.W c.requires.narrow,
      (
        search rules,
        (
          words_fit g.row.W c.requires.narrow,
          (
            lit< tt,
            (
              c.requires.narrow,
              (
                record {
                  closed = r.closed;
                  members = λ p m. r.members p (cut.upper.inside p m);
                  some = cut.some;
                  few = (let few = r.few in omega (arith, lens, few));
                  rates = r.rates;
                  covers = covers_within dep s first c.args.parents.now r.covers cut.upper.inside;
                  room = subst (HasRoom n first) (sym c.in-Some.ensures.draft)
                      (first_room n dep s first r.closed r.members r.rates cut c.args.draft.now r.room);
                },
                (let room = c.requires.weights in omega (arith, room, c.best.auto.weights)),
              ),
            ),
          ),
        ),
      ),
    )

pub best-requires-then-one : goal.best-requires-then-one
best-requires-then-one g c =
    let n : ℕ = 64 * g.row.W in
    let r = c.requires.ready in
    let cut = c.in-Some.ensures.cut in
    let dep = c.args.dep.now in
    let s = c.args.within.now in
    let first = c.in-Some.first in
    let is : c.minus-rest.result ≡ fin.difference s first = c.minus-rest.ensures in
    let same : fin.len c.minus-rest.result ≡ fin.len (fin.difference s first) = ap (λ x. fin.len x) is in
    let lens : fin.len s ≡ fin.len first + fin.len (fin.difference s first) = both_lens n dep s first r.closed r.members r.rates cut in
    let others : 0 < fin.len (fin.difference s first) = cut.others in
    let one : Adds n dep first c.args.draft.now c.best-2.new.draft =
    subst (λ w. Adds n dep first w c.best-2.new.draft) c.in-Some.ensures.draft
    (when_none c.best-2.result c.is_none-one.result _ _ c.best-2.ensures.draft c.is_none-one.ensures c.if-one.true) in (
      scratch_fits g.row.W c.requires.narrow,
      (
        search rules,
        (
          words_fit g.row.W c.requires.narrow,
          (
            lit< tt,
            (
              c.requires.narrow,
              (
                record {
                  closed = r.closed;
                  members = λ p m. r.members p (minus_parts s first p (subst (λ x. fin.contains x p ≡ true) is m)).0;
                  some = omega (arith, same, others);
                  few = (let few = r.few in omega (arith, same, lens, few));
                  rates = r.rates;
                  covers = covers_within dep s c.minus-rest.result c.args.parents.now r.covers (λ p m. (minus_parts s first p (subst (λ x. fin.contains x p ≡ true) is m)).0);
                  room = subst (λ x. HasRoom n x c.best-2.new.draft) (sym is)
                      (second_room n dep s first r.closed r.members r.rates cut c.args.draft.now c.best-2.new.draft r.room one);
                },
                (let room = c.requires.weights in omega (arith, room, c.best.auto.weights, c.best-2.auto.weights)),
              ),
            ),
          ),
        ),
      ),
    )

pub returns-then-one-clause-adds : goal.returns-then-one-clause-adds
returns-then-one-clause-adds g c = λ none.
    let n : ℕ = 64 * g.row.W in
    let r = c.requires.ready in
    let dep = c.args.dep.now in
    let first = c.in-Some.first in
    both_added n dep c.args.within.now first r.closed r.members r.rates c.in-Some.ensures.cut c.args.draft.now c.best-2.new.draft
    c.best-then-one.new.draft
    (subst (λ w. Adds n dep first w c.best-2.new.draft) c.in-Some.ensures.draft
    (when_none c.best-2.result c.is_none-one.result _ _ c.best-2.ensures.draft c.is_none-one.ensures c.if-one.true))
    (subst (λ x. Adds n dep x c.best-2.new.draft c.best-then-one.new.draft) c.minus-rest.ensures
    (when_none c.best-then-one.result c.is_none.result _ _ c.best-then-one.ensures.draft c.is_none.ensures none))

pub returns-then-one-clause-most : goal.returns-then-one-clause-most
returns-then-one-clause-most g c =
    let r = c.requires.ready in
    let cut = c.in-Some.ensures.cut in
    let s = c.args.within.now in
    let first = c.in-Some.first in
    cut_most (fin.len s) (fin.len first) (fin.len (fin.difference s first)) _ _ _ _ c.best.new.steps c.best-2.new.steps _
    (both_lens (64 * g.row.W) c.args.dep.now s first r.closed r.members r.rates cut) cut.some cut.others c.best.ensures.solve
    c.best-2.ensures.solve
    (solve_most _ _ _ _ _ (subst (λ x. AreOfOne (fin.len x) c.best-2.new.scratch c.best-then-one.new.scratch c.best-2.new.steps c.best-then-one.new.steps)
    {y = fin.difference s first} c.minus-rest.ensures c.best-then-one.ensures.solve))

pub returns-else-one-clause-most : goal.returns-else-one-clause-most
returns-else-one-clause-most g c =
    let r = c.requires.ready in
    let cut = c.in-Some.ensures.cut in
    let s = c.args.within.now in
    let first = c.in-Some.first in
    cut_most (fin.len s) (fin.len first) (fin.len (fin.difference s first)) _ _ _ _ c.best.new.steps c.best-2.new.steps _
    (both_lens (64 * g.row.W) c.args.dep.now s first r.closed r.members r.rates cut) cut.some cut.others c.best.ensures.solve
    c.best-2.ensures.solve (omega arith)

pub returns-in_default-clause-least : goal.returns-in_default-clause-least
returns-in_default-clause-least g c = at_least_one _ _ _ _ _ c.best.ensures.solve

pub returns-then-one-clause-least : goal.returns-then-one-clause-least
returns-then-one-clause-least g c =
    let own = at_least_one _ _ _ _ _ c.best.ensures.solve in
    let first = at_least_one _ _ _ _ _ c.best-2.ensures.solve in
    at_least_both (fin.len c.args.within.now) _ _ _ _ _ c.args.steps.now c.best-2.new.steps c.best-then-one.new.steps (omega arith)
    (at_least_both (fin.len c.args.within.now) _ _ _ _ _ c.args.steps.now c.best.new.steps c.best-2.new.steps (omega arith) own first)
    (at_least_one _ _ _ _ _ c.best-then-one.ensures.solve)

pub returns-else-one-clause-least : goal.returns-else-one-clause-least
returns-else-one-clause-least g c =
    at_least_both (fin.len c.args.within.now) _ _ _ _ _ c.args.steps.now c.best.new.steps c.best-2.new.steps (omega arith)
    (at_least_one _ _ _ _ _ c.best.ensures.solve) (at_least_one _ _ _ _ _ c.best-2.ensures.solve)
