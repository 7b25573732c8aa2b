use Rattle.std.proofs.Common.{◌≡◌, ◌<◌, ◌+◌, ◌*◌, ℕ, ap, sym, subst, arith, lit<, true, rules}
use Rattle.std.specs.FinSet as fin
use Rattle.bitset.specs.Members.{minus_parts}
use Rattle.linearize.specs.Splits.{Adds, HasRoom}
use Rattle.linearize.specs.Drafts.{Written}
use Rattle.linearize.specs.Steps.{AddsBySolves}
use Rattle.linearize.proofs.Joined.{both_lens, first_room, second_room, both_added}
use Rattle.linearize.proofs.Places.{covers_within}
use Rattle.linearize.proofs.Sizes.{words_fit, scratch_fits}
use Rattle.linearize.proofs.Solves.{one_solve, two_solves}
use Rattle.linearize.proofs.split.+split.Goals as goal

pub split-requires : goal.split-requires
split-requires g t c κs within =
    let n : ℕ = 64 * g.row.W in
    let r = c.requires.ready in
    let best = c.in-Some.ensures.cut in
    let dep = c.args.dep.now in
    let s = c.args.within.now in
    let first = c.in-Some.first in
    let lens : fin.len s ≡ fin.len first + fin.len (fin.difference s first) = both_lens n dep s first r.closed r.members r.rates best in
    let some : 0 < fin.len first = best.some in
    let others : 0 < fin.len (fin.difference s first) = best.others in (
      (let less : fin.len first < fin.len s = omega (arith, lens, others) in search rules),
      (
        within,
        (
          search rules,
          (
            scratch_fits g.row.W c.requires.narrow,
            (
              search rules,
              (
                words_fit g.row.W c.requires.narrow,
                (
                  lit< tt,
                  (
                    c.requires.narrow,
                    (
                      record {
                        closed = r.closed;
                        members = λ p m. r.members p (best.upper.inside p m);
                        some = some;
                        few = (let few = r.few in omega (arith, lens, few));
                        rates = r.rates;
                        covers = covers_within dep s first c.args.parents.now r.covers best.upper.inside;
                        room = subst (HasRoom n first) (sym c.in-Some.ensures.draft)
                            (first_room n dep s first r.closed r.members r.rates best c.args.draft.now r.room);
                      },
                      (let room = c.requires.weights in omega (arith, room, c.best.auto.weights)),
                    ),
                  ),
                ),
              ),
            ),
          ),
        ),
      ),
    )

pub split-requires-in-Some : goal.split-requires-in-Some
split-requires-in-Some g t c κs within =
    let n : ℕ = 64 * g.row.W in
    let r = c.requires.ready in
    let best = c.in-Some.ensures.cut in
    let dep = c.args.dep.now in
    let s = c.args.within.now in
    let first = c.in-Some.first in
    let is : c.minus-rest.result ≡ fin.difference s first = c.minus-rest.ensures in
    let same : fin.len c.minus-rest.result ≡ fin.len (fin.difference s first) = ap (λ x. fin.len x) is in
    let lens : fin.len s ≡ fin.len first + fin.len (fin.difference s first) = both_lens n dep s first r.closed r.members r.rates best in
    let some : 0 < fin.len first = best.some in
    let others : 0 < fin.len (fin.difference s first) = best.others in
    let one : Adds n dep first c.args.draft.now c.split.new.draft =
    subst (λ w. Adds n dep first w c.split.new.draft) c.in-Some.ensures.draft c.split.ensures.adds in (
      (let less : fin.len c.minus-rest.result < fin.len s = omega (arith, same, lens, some) in search rules),
      (
        within,
        (
          search rules,
          (
            scratch_fits g.row.W c.requires.narrow,
            (
              search rules,
              (
                words_fit g.row.W c.requires.narrow,
                (
                  lit< tt,
                  (
                    c.requires.narrow,
                    (
                      record {
                        closed = r.closed;
                        members = λ p m. r.members p (minus_parts s first p (subst (λ x. fin.contains x p ≡ true) is m)).0;
                        some = omega (arith, same, others);
                        few = (let few = r.few in omega (arith, same, lens, few));
                        rates = r.rates;
                        covers = covers_within dep s c.minus-rest.result c.args.parents.now r.covers (λ p m. (minus_parts s first p (subst (λ x. fin.contains x p ≡ true) is m)).0);
                        room = subst (λ x. HasRoom n x c.split.new.draft) (sym is)
                            (second_room n dep s first r.closed r.members r.rates best c.args.draft.now c.split.new.draft r.room one);
                      },
                      (let room = c.requires.weights in omega (arith, room, c.best.auto.weights, c.split.auto.weights)),
                    ),
                  ),
                ),
              ),
            ),
          ),
        ),
      ),
    )

pub returns-in-Some-clause-adds : goal.returns-in-Some-clause-adds
returns-in-Some-clause-adds g t c =
    let n : ℕ = 64 * g.row.W in
    let r = c.requires.ready in
    let best = c.in-Some.ensures.cut in
    let dep = c.args.dep.now in
    let s = c.args.within.now in
    let first = c.in-Some.first in
    let is : c.minus-rest.result ≡ fin.difference s first = c.minus-rest.ensures in
    both_added n dep s first r.closed r.members r.rates best c.args.draft.now c.split.new.draft c.split-in-Some.new.draft
    (subst (λ w. Adds n dep first w c.split.new.draft) c.in-Some.ensures.draft c.split.ensures.adds)
    (subst (λ x. Adds n dep x c.split.new.draft c.split-in-Some.new.draft) is c.split-in-Some.ensures.adds)

pub returns-in-Some-clause-solves : goal.returns-in-Some-clause-solves
returns-in-Some-clause-solves g t c =
    let r = c.requires.ready in
    let s = c.args.within.now in
    let first = c.in-Some.first in
    let lens = both_lens (64 * g.row.W) c.args.dep.now s first r.closed r.members r.rates c.in-Some.ensures.cut in
    two_solves (fin.len s) (fin.len first) (fin.len (fin.difference s first)) c.args.draft.now.parts c.split.new.draft.parts _ _ _ _ _ _
    c.best.new.steps c.split.new.steps _ lens c.best.ensures.solve
    (subst (λ (w : Written). AddsBySolves (fin.len first) w.parts c.split.new.draft.parts c.best.new.scratch c.split.new.scratch c.best.new.steps
    c.split.new.steps) c.in-Some.ensures.draft c.split.ensures.solves)
    (subst (λ x. AddsBySolves (fin.len x) c.split.new.draft.parts c.split-in-Some.new.draft.parts c.split.new.scratch c.split-in-Some.new.scratch
    c.split.new.steps c.split-in-Some.new.steps) {y = fin.difference s first} c.minus-rest.ensures c.split-in-Some.ensures.solves)

pub returns-in_default-clause-solves : goal.returns-in_default-clause-solves
returns-in_default-clause-solves g t c =
    one_solve _ c.args.draft.now _ _ _ _ _ c.requires.ready.some c.in_default.ensures.one c.best.ensures.solve
