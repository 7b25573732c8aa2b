-- A whole number for each rate, by which most comparisons of keys are decided without their products: no higher rate has a lower one.
use Rattle.std.specs.Prelude.{ℕ, ◌-◌, ◌*◌, ◌/◌, ◌^◌, min, max, ℤ, pos, negsuc}
use Rattle.fee_rate.specs.declared.rates.FeeRate.{FeeRate}

-- the satoshis of a fee; none where it is below 0
abbrev pub satoshis : ℤ → ℕ
satoshis (pos n) = n
satoshis (negsuc n) = 0

-- 2^32 times the rate, rounded down, and no more than the greatest number of 64 bits
unfoldable pub floor_of : FeeRate → ℕ
floor_of r = min (satoshis r.fee * 2 ^ 32 / max 1 r.size) (2 ^ 64 - 1)
