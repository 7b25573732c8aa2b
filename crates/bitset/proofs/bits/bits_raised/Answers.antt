use Rattle.std.proofs.Common.{inl, inr, arith, ◌≡◌, ◌⊎◌}
use Rattle.bitset.proofs.Shifts.{up_alone, up_both}
use Rattle.bitset.proofs.bits.bits_raised.Goals as goal

pub returns-then-i-eq0 : goal.returns-then-i-eq0
returns-then-i-eq0 c k inside = up_alone c.args.words.now (λ j. (c.type_inv.words j).fits) c.args.i c.args.by k inside
    (elim c.if-i-eq0.either as (λ _. (c.args.by ≡ 0) ⊎ (c.args.i ≡ 0)) [ inl e ↦ inl e | inr e ↦ inr e.1 ])

pub returns-else-i-eq0 : goal.returns-else-i-eq0
returns-else-i-eq0 c k inside = up_both c.args.words.now (λ j. (c.type_inv.words j).fits) c.args.i c.args.by k inside
    (omega (arith, c.if-i-eq0.false.0)) c.requires.within (omega (arith, c.if-i-eq0.false.1))
