use Rattle.std.proofs.Common.{◌≡◌, ℕ, arith, ap, ◌∙◌, ℤ, pos, ◌*ℤ◌, ◌^◌, ◌<◌, ◌≤◌, unsigned_abs, refl}
use Rattle.std.proofs.lemmas.Int.{ints}
use Rattle.certificate.proofs.Bookings.{weight_kept, kept}
use Rattle.certificate.proofs.flows.weight.Goals as goal

small : (z w : ℤ) (m : ℕ) → z ≡ w → unsigned_abs w ≤ m → m < 2 ^ 127 → unsigned_abs z < 2 ^ 127
small z w m e h k = omega (arith, ints)

pub returns : goal.returns
returns c =
    let e = c.from-own.ensures in
    let own = kept c.from-own.result.fee (small _ c.args.own.fee _ e.0 c.requires.own_in.fee (omega arith)) ∙ e.0 in
    let whole = kept c.args.whole.fee (small _ c.args.whole.fee _ refl c.requires.whole_in.fee (omega arith)) in
    let above = c.product-above.ensures.product ∙ ap (λ (z : ℤ). z *ℤ pos c.args.whole.size) own in
    let below = c.product-below.ensures.product ∙ ap (λ (z : ℤ). z *ℤ pos c.from-own.result.size) whole ∙ ap (λ (n : ℕ). c.args.whole.fee *ℤ pos n) e.1 in
    weight_kept c.product-above.result c.product-below.result _ _ c.product-above.ensures.level c.product-below.ensures.level above below
