-- Rates rounded down to whole numbers keep the order of keys.
use Rattle.std.proofs.Common.{◌≡◌, ℕ, ◌*◌, ◌/◌, ◌^◌, ◌<◌, ◌≤◌, max, ℤ, pos, negsuc, ◌*ℤ◌, ◌≤ℤ◌, ◌<ℤ◌, inl, inr, refl, arith}
use Rattle.std.proofs.lemmas.Int.{ints}
use Rattle.std.proofs.lemmas.Nat.{le-div}
use Rattle.std.proofs.Math.Nat.{div-mul-le_self, mul-le-mul_right, le_of_mul-le-mul_right}
use Rattle.std.specs.declared.cmp.Ordering.TheVariants.{Less, Greater}
use Rattle.std.specs.Cmp.{int_cmp_is}
use Rattle.arithmetic.proofs.Products.{scale_keeps}
use Rattle.arithmetic.proofs.Rates.{cross_total}
use Rattle.fee_rate.specs.declared.rates.FeeRate.{FeeRate}
use Rattle.chunk_index.specs.declared.key.Key.{Key}
use Rattle.chunk_index.specs.KeyOrder.{key_cmp}
use Rattle.chunk_index.specs.Floors.{satoshis, floor_of}

-- Rounding down keeps the order of two rates f over s and g over t, scaled by k.
scaled : (k f g s t : ℕ) → 0 < s → 0 < t → f * t ≤ g * s → f * k / s ≤ g * k / t
scaled k f g s t hs ht cross =
    let down = mul-le-mul_right t (div-mul-le_self (f * k) s) in
    let up = mul-le-mul_right k cross in
    let same : f * k / s * t * s ≤ g * k * s = omega (arith, down, up) in
    le-div (f * k / s) (g * k) t ht (le_of_mul-le-mul_right same hs)

cross_satoshis : (f g : ℤ) (s t : ℕ) → (f *ℤ pos t) ≤ℤ (g *ℤ pos s) → satoshis f * t ≤ satoshis g * s
cross_satoshis (pos m) (pos n) s t h = omega (arith, ints, h)
cross_satoshis (pos m) (negsuc n) s t h = omega (arith, ints, h, scale_keeps s (negsuc n) (pos 0) (omega (arith, ints)))
cross_satoshis (negsuc m) g s t h = omega arith

positive : (n : ℕ) → 0 < max 1 n
positive n = omega arith

-- no rate's number is below that of a rate that it reaches
keeps : (a b : FeeRate) → (a.fee *ℤ pos (max 1 b.size)) ≤ℤ (b.fee *ℤ pos (max 1 a.size)) → floor_of a ≤ floor_of b
unfolding floor_of
keeps a b cross =
    let rates = scaled (2 ^ 32) (satoshis a.fee) (satoshis b.fee) (max 1 a.size) (max 1 b.size) (positive a.size) (positive b.size)
    (cross_satoshis a.fee b.fee (max 1 a.size) (max 1 b.size) cross) in
    omega (arith, rates)

-- the rate of the higher number is the higher one
pub higher : (a b : FeeRate) → floor_of b < floor_of a → (b.fee *ℤ pos (max 1 a.size)) <ℤ (a.fee *ℤ pos (max 1 b.size))
higher a b above =
    elim (cross_total a.fee b.fee (max 1 a.size) (max 1 b.size)) [
      | inl cross ↦ absurd (omega (arith, above, keeps a b cross))
      | inr cross ↦ cross
    ]

-- so its key stands first
pub stands_first : (x y : Key) → floor_of y.rate < floor_of x.rate → key_cmp x y ≡ Less
unfolding key_cmp
stands_first x y above =
    rw (← int_cmp_is (y.rate.fee *ℤ pos (max 1 x.rate.size)) (x.rate.fee *ℤ pos (max 1 y.rate.size)) Less (higher x.rate y.rate above)) refl

pub stands_behind : (x y : Key) → floor_of x.rate < floor_of y.rate → key_cmp x y ≡ Greater
unfolding key_cmp
stands_behind x y above =
    rw (← int_cmp_is (y.rate.fee *ℤ pos (max 1 x.rate.size)) (x.rate.fee *ℤ pos (max 1 y.rate.size)) Greater (higher y.rate x.rate above)) refl
