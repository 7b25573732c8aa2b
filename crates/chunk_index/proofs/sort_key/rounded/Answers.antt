use Rattle.std.proofs.Common.{◌≡◌, ℕ, ◌-◌, ◌*◌, ◌/◌, ◌^◌, ◌<◌, ◌≤◌, ◌∙◌, min, ◌≤ℤ◌, ◌<ℤ◌, ℤ, pos, negsuc, refl, arith, unsigned_abs, max, rules}
use Rattle.std.proofs.Math.Nat.{zero-div, div-mul-le_self, mul-le-mul_right}
use Rattle.std.proofs.lemmas.Int.{ints}
use Rattle.chunk_index.specs.Floors.{satoshis, floor_of}
use Rattle.chunk_index.proofs.sort_key.rounded.Goals as goal

none : (f : ℤ) → f <ℤ pos 0 → satoshis f ≡ 0
none (pos n) h = absurd (omega (arith, ints, h))
none (negsuc n) h = refl

all : (f : ℤ) → pos 0 ≤ℤ f → satoshis f ≡ unsigned_abs f
all (pos n) h = refl
all (negsuc n) h = absurd (omega (arith, ints, h))

least : (r f g s t top : ℕ) → r ≡ min (f * 2 ^ 32 / s) top → f ≡ g → s ≡ max t 1 → top ≡ 2 ^ 64 - 1 → r ≡ min (g * 2 ^ 32 / max 1 t) (2 ^ 64 - 1)
least r f g s t top is fee size high =
    let turned : s ≡ max 1 t = omega (arith, size) in
    is ∙ rw (fee, turned, high) refl

-- 64 bits hold the product, and so the quotient
small : (f g s t : ℕ) → f ≡ g → s ≡ max t 1 → f < 2 ^ 32 → f * 2 ^ 32 / s ≡ min (g * 2 ^ 32 / max 1 t) (2 ^ 64 - 1)
small f g s t fee size low =
    let turned : s ≡ max 1 t = omega (arith, size) in
    let one : 1 ≤ s = omega (arith, size) in
    let quotient = f * 2 ^ 32 / s in
    let under : quotient ≤ 2 ^ 64 - 1 = omega (arith, div-mul-le_self (f * 2 ^ 32) s, mul-le-mul_right quotient one, low) in
    let least : quotient ≡ min quotient (2 ^ 64 - 1) = omega (arith, under) in
    least ∙ rw (fee, turned) refl

pub returns-then-fee : goal.returns-then-fee
unfolding floor_of
returns-then-fee c =
    let above : pos 0 ≤ℤ c.args.rate.fee = search rules in
    rw (all c.args.rate.fee above) (small c.unsigned_abs-fee.result (unsigned_abs c.args.rate.fee) c.max-size.result c.args.rate.size
    (search rules) c.max-size.ensures c.if-fee.true)

pub returns-then-rate-lt0 : goal.returns-then-rate-lt0
unfolding floor_of
returns-then-rate-lt0 c =
    let below : c.args.rate.fee <ℤ pos 0 = search rules in
    rw (none c.args.rate.fee below, zero-div (max 1 c.args.rate.size)) refl

pub returns : goal.returns
unfolding floor_of
returns c =
    let above : pos 0 ≤ℤ c.args.rate.fee = search rules in
    rw (all c.args.rate.fee above) (least c.min.result c.from.result (unsigned_abs c.args.rate.fee) c.from-2.result c.args.rate.size c.from-3.result
    c.min.ensures (search rules) (search rules) c.from-3.ensures)
