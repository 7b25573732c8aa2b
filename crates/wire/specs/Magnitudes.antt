-- The magnitudes of numbers of 64 bits and of certificates, within their limits.
use Rattle.std.proofs.Common.{◌+◌, ◌<◌, ◌≤◌, ◌^◌, arith, ℤ, pos, negsuc, unsigned_abs, FitsSigned}
use Rattle.std.specs.Int.{w64}
use Rattle.std.proofs.lemmas.Int.{ints}
use Rattle.wire.specs.Fields.{IsBigFee}

pub wide_is_small : 2 ^ 64 ≤ 10 ^ 64
wide_is_small = omega arith

pub big_is_small : 10 ^ 30 + 1 ≤ 10 ^ 64
big_is_small = omega arith

pub signed_magnitude : (z : ℤ) → FitsSigned w64 z → unsigned_abs z < 2 ^ 64
signed_magnitude (pos n) fits = omega (arith, ints, fits)
signed_magnitude (negsuc n) fits = omega (arith, ints, fits)

pub big_fee_magnitude : (z : ℤ) → IsBigFee z → unsigned_abs z < 10 ^ 30 + 1
big_fee_magnitude z fits = omega (arith, fits)
