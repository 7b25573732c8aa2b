-- No name below the best position stands earlier in the list.
use Rattle.std.proofs.Common.{◌<◌, length, slice_index, inl, inr, subst, arith}
use Rattle.repeats.specs.Places.{NoneAgain, StandsWithin}
use Rattle.repeats.proofs.Again.{first_again, none_at_all}
use Rattle.repeats.proofs.pieces.Repeats.first.Goals as goal

pub returns-then-best-ids-clause-first : goal.returns-then-best-ids-clause-first
returns-then-best-ids-clause-first c =
    none_at_all c.args.ids.now c.loop-start.start (omega (arith, c.if-best-ids.true, c.loop-start-test.false))
    (subst (NoneAgain c.args.ids.now 0 c.loop-start.start) c.if-best-ids.true c.loop-start.invariant.none)

pub returns-clause-first : goal.returns-clause-first
returns-clause-first c =
    let best = c.loop-start.best in
    let again : (best < length c.args.ids.now) × StandsWithin c.args.ids.now 0 best (slice_index c.args.ids.now best) =
    elim c.loop-start.invariant.again [ inl end ↦ absurd (c.if-best-ids.false end) | inr there ↦ there ] in
    first_again c.args.ids.now c.loop-start.start best again.0 c.loop-start-test.false c.loop-start.invariant.none again.1
