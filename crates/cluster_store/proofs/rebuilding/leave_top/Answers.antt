-- One more is out.
use Rattle.std.proofs.Common.{ℕ, List, [], take, get_or, refl, sym, ap, subst, add-one}
use Rattle.std.proofs.lemmas.List.{take_all}
use Rattle.cluster_store.specs.Kept.{shelved}
use Rattle.cluster_store.specs.Tops.{Exchanged}
use Rattle.cluster_store.proofs.Done.{none_taken}
use Rattle.cluster_store.proofs.Following.{exchanged_none}
use Rattle.cluster_store.proofs.Turning.{left_more, may_next}
use Rattle.cluster_store.proofs.rebuilding.leave_top.Goals as goal

pub loop-at-init : goal.loop-at-init
loop-at-init g c =
    let old = shelved c.args.slots.now.slots in
    record {
      so_far = subst (λ (xs : List ℕ). Exchanged c.args.staged xs [] [] old old) (sym (none_taken c.args.outs.now))
          (exchanged_none c.args.staged old c.requires.may.both);
      shown = c.requires.shown;
    }

pub leave_one-requires : goal.leave_one-requires
leave_one-requires g c = (
  search,
  (
    c.loop-at.invariant.shown,
    may_next c.args.staged c.args.outs.now c.loop-at.at (get_or c.args.outs.now c.loop-at.at 0) (shelved c.args.slots.now.slots) (shelved c.loop-at.slots.slots)
        c.loop-at-test.true refl c.requires.may c.loop-at.invariant.so_far,
  ),
)

pub loop-at-preserved : goal.loop-at-preserved
loop-at-preserved g c =
    let old = shelved c.args.slots.now.slots in
    let new = shelved c.leave_one.new.slots.slots in
    record {
      so_far =
          subst (λ (xs : List ℕ). Exchanged c.args.staged xs [] [] old new) (ap (λ (n : ℕ). take n c.args.outs.now) (sym (add-one c.loop-at.at)))
          (left_more c.args.staged c.args.outs.now c.loop-at.at (get_or c.args.outs.now c.loop-at.at 0) old (shelved c.loop-at.slots.slots)
          c.loop-at-test.true refl c.requires.may c.loop-at.invariant.so_far new c.leave_one.ensures.out);
      shown = c.leave_one.ensures.shown;
    }

pub returns-clause-out : goal.returns-clause-out
returns-clause-out g c =
    subst (λ (xs : List ℕ). Exchanged c.args.staged xs [] [] (shelved c.args.slots.now.slots) (shelved c.loop-at.slots.slots))
    (take_all c.loop-at.at c.args.outs.now c.loop-at-test.false) c.loop-at.invariant.so_far
