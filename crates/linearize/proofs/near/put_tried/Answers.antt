use Rattle.std.proofs.Common.{rules, ℕ, ◌+◌, ◌*◌, ◌≤◌, sym, subst, arith, lit<}
use Rattle.std.specs.FinSet as fin
use Rattle.std.proofs.Math.Nat.{mul-le-mul_left}
use Rattle.lists.proofs.Keys.{set_within}
use Rattle.linearize.specs.Near.{most_tried}
use Rattle.linearize.proofs.Trials.{ready, both_lens, both_fit, tried_steps}
use Rattle.linearize.proofs.Sizes.{words_fit, scratch_fits}
use Rattle.linearize.proofs.near.put_tried.Goals as goal

pub comes_next-requires : goal.comes_next-requires
comes_next-requires g c = (search rules, (words_fit g.row.W c.requires.narrow, (c.requires.narrow, c.requires.begun.held)))

pub link-requires : goal.link-requires
link-requires g c =
    let next = c.comes_next.ensures c.if-not-comes_next.false in (
      search rules,
      (
        words_fit g.row.W c.requires.narrow,
        (
          c.requires.narrow,
          (λ p m. c.requires.begun.held p (next.inside p m), (let long = c.requires.room.0 in omega (arith, long))),
        ),
      ),
    )

pub union-requires : goal.union-requires
union-requires g c = words_fit g.row.W c.requires.narrow

pub split_once-requires : goal.split_once-requires
split_once-requires g c =
    let next = c.comes_next.ensures c.if-not-comes_next.false in (
      scratch_fits g.row.W c.requires.narrow,
      (
        search rules,
        (
          words_fit g.row.W c.requires.narrow,
          (
            lit< tt,
            (
              c.requires.narrow,
              (
                ready (64 * g.row.W) c.args.dep.now c.link.new.parents c.args.members.now c.args.done.now c.args.group.now c.args.draft.now
                    c.args.draft.now c.requires.begun next c.link.ensures,
                (let long = c.requires.room.1 in omega (arith, long)),
              ),
            ),
          ),
        ),
      ),
    )

pub returns-clause-solved : goal.returns-clause-solved
returns-clause-solved g c = record {
  next = c.comes_next.ensures c.if-not-comes_next.false;
  adds = c.split_once.ensures.adds c.if-not-split_once.false;
  both = c.union.ensures;
}

pub returns-clause-some : goal.returns-clause-some
returns-clause-some g c =
    let next = c.comes_next.ensures c.if-not-comes_next.false in
    let n : ℕ = 64 * g.row.W in
    let sum = both_lens n c.args.dep.now c.link.new.parents c.args.members.now c.args.done.now c.args.group.now c.args.draft.now c.args.draft.now c.requires.begun next in
    let fit = both_fit n c.args.dep.now c.link.new.parents c.args.members.now c.args.done.now c.args.group.now c.args.draft.now c.args.draft.now c.requires.begun next in
    subst (λ s. c.split_once.new.steps + most_tried (fin.len c.args.members.now) * fin.len c.args.done.now
    ≤ c.args.steps.now + most_tried (fin.len c.args.members.now) * fin.len s) (sym c.union.ensures)
    (tried_steps (fin.len c.args.members.now) (fin.len c.args.done.now) (fin.len c.args.group.now) _ c.args.steps.now c.split_once.new.steps sum fit
    c.split_once.ensures.most).0

pub returns-then-not-split_once-clause-none : goal.returns-then-not-split_once-clause-none
returns-then-not-split_once-clause-none g c =
    let next = c.comes_next.ensures c.if-not-comes_next.false in
    let n : ℕ = 64 * g.row.W in
    let sum = both_lens n c.args.dep.now c.link.new.parents c.args.members.now c.args.done.now c.args.group.now c.args.draft.now c.args.draft.now c.requires.begun next in
    let fit = both_fit n c.args.dep.now c.link.new.parents c.args.members.now c.args.done.now c.args.group.now c.args.draft.now c.args.draft.now c.requires.begun next in
    (tried_steps (fin.len c.args.members.now) (fin.len c.args.done.now) (fin.len c.args.group.now) _ c.args.steps.now c.split_once.new.steps sum fit
    c.split_once.ensures.most).1

pub returns-clause-none : goal.returns-clause-none
returns-clause-none g c =
    let next = c.comes_next.ensures c.if-not-comes_next.false in
    let n : ℕ = 64 * g.row.W in
    let sum = both_lens n c.args.dep.now c.link.new.parents c.args.members.now c.args.done.now c.args.group.now c.args.draft.now c.args.draft.now c.requires.begun next in
    let fit = both_fit n c.args.dep.now c.link.new.parents c.args.members.now c.args.done.now c.args.group.now c.args.draft.now c.args.draft.now c.requires.begun next in
    (tried_steps (fin.len c.args.members.now) (fin.len c.args.done.now) (fin.len c.args.group.now) _ c.args.steps.now c.split_once.new.steps sum fit
    c.split_once.ensures.most).1

pub returns-then-not-comes_next-clause-none : goal.returns-then-not-comes_next-clause-none
returns-then-not-comes_next-clause-none g c =
    let less = set_within c.args.done.now c.args.members.now c.requires.begun.inside in
    let more = mul-le-mul_left (most_tried (fin.len c.args.members.now)) less in
    omega (arith, more)
