use Rattle.std.proofs.Common.{ℕ, ◌≡◌, ◌∷◌, decimal, subst, arith}
use Rattle.std.specs.Fmt.{signed_decimal}
use Rattle.wire.specs.Magnitudes.{signed_magnitude}
use Rattle.wire.proofs.NumberLemmas.{zero_unread, negative_reads}
use Rattle.wire.proofs.numbers.U64Magnitude.negative.Goals as goal

pub returns-then-self-eq0 : goal.returns-then-self-eq0
returns-then-self-eq0 c value fits is = zero_unread value (omega (arith, signed_magnitude value fits))
    (subst (λ (n : ℕ). 45 ∷ decimal n ≡ signed_decimal value) c.if-self-eq0.true is)

pub returns-else-self-eq0 : goal.returns-else-self-eq0
returns-else-self-eq0 c =
    negative_reads c.args.self c.checked_sub_unsigned.result c.if-self-eq0.false (omega (arith, c.ranges.self.fits)) c.checked_sub_unsigned.ensures
