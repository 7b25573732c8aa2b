use Rattle.std.proofs.Common.{inl, inr, refl}
use Rattle.desk.proofs.ordering.gather_sides.Goals.{then-oversized-via-then-oversized, then-oversized-via-else-oversized+then-oversized-2}
use Rattle.desk.proofs.ordering.gather_sides.Goals as goal

pub returns-then-oversized : goal.returns-then-oversized
returns-then-oversized c = inr (λ state stands. inr (
  λ alone. alone ((c.staged.ensures state stands).0 c.if-not-staged.false),
  inl (
    elim c.then-oversized.branch [
      | then-oversized-via-then-oversized w ↦ inl ((c.oversized.ensures.state state stands).0 w.if-oversized.true)
      | then-oversized-via-else-oversized+then-oversized-2 w ↦ inr ((w.oversized-else-oversized.ensures.state state stands).0 w.if-oversized-2.true)
    ],
    refl,
  ),
))
