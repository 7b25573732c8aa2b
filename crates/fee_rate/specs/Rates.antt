-- The order of rates. (f, s) is the fee f, an integer, over the size s, a natural of at least 1. This is `FeeFrac` of Bitcoin Core
-- (feefrac.h): rising rate, and among equal rates falling size.
use Rattle.std.specs.Prelude.{◌<◌, ◌≡◌, ◌⊎◌, pos, ◌*ℤ◌, ◌≤ℤ◌, ◌<ℤ◌}
use Rattle.std.specs.declared.cmp.Ordering.{Ordering}
use Rattle.std.specs.declared.cmp.Ordering.TheVariants.{Less, Equal, Greater}
use Rattle.fee_rate.specs.declared.rates.FeeRate.{FeeRate}
use Rattle.fee_rate.specs.declared.rates.Sum.{Sum}

-- a fee and a size, as sums are
abbrev pub sum_from : FeeRate → Sum
sum_from rate = record { fee = rate.fee; size = rate.size }

-- the rate of a is at most that of b
pub record AtMost (a b : Sum) : Type 0 where
  pub crossed : (a.fee *ℤ pos b.size) ≤ℤ (b.fee *ℤ pos a.size)

-- the rate of a is below that of b
pub record Below (a b : Sum) : Type 0 where
  pub crossed : (a.fee *ℤ pos b.size) <ℤ (b.fee *ℤ pos a.size)

-- the rates are equal
pub record Same (a b : Sum) : Type 0 where
  pub crossed : (a.fee *ℤ pos b.size) ≡ (b.fee *ℤ pos a.size)

-- an answer says which of two rates is the lower
abbrev pub ComparesRates : Sum → Sum → Ordering → Type 0
ComparesRates a b Less = Below a b
ComparesRates a b Equal = Same a b
ComparesRates a b Greater = Below b a

-- a stands before b in the full order: its rate is lower, or the rates are equal and a is larger
abbrev pub Before : Sum → Sum → Type 0
Before a b = Below a b ⊎ (Same a b × (b.size < a.size))

-- an answer says which of two sums stands first in the full order; Equal exactly where both numbers agree
abbrev pub ComparesFully : Sum → Sum → Ordering → Type 0
ComparesFully a b Less = Before a b
ComparesFully a b Equal = a ≡ b
ComparesFully a b Greater = Before b a
