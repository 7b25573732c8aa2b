use Rattle.std.proofs.Common.{ℕ, ◌≡◌, ◌∷◌, decimal, subst, arith}
use Rattle.std.specs.Fmt.{signed_decimal}
use Rattle.wire.proofs.NumberLemmas.{zero_unread}
use Rattle.wire.proofs.numbers.U128Magnitude.negative.Goals as goal

pub returns-then-self-eq0 : goal.returns-then-self-eq0
returns-then-self-eq0 c value fits is =
    zero_unread value (omega (arith, fits)) (subst (λ (n : ℕ). 45 ∷ decimal n ≡ signed_decimal value) c.if-self-eq0.true is)
