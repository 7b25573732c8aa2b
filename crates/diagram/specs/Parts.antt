-- Parts of a level, as an iterator gives them.
use Rattle.std.specs.Prelude.{◌≡◌, ◌+◌, ◌≤◌, ◌+ℤ◌, List, ◌++◌, map, Contains, Option, IfSome}
use Rattle.std.specs.Iterator.{AlwaysYields}
use Rattle.fee_rate.specs.declared.rates.FeeRate.{FeeRate}
use Rattle.fee_rate.specs.declared.rates.Sum.{Sum}
use Rattle.fee_rate.specs.Limits.{InRange, IsSum}
use Rattle.fee_rate.specs.Rates.{AtMost}
use Rattle.graphs.specs.Certificates.{Part}
use Rattle.graphs.specs.Rates.{sum_of, Falls}

-- a part's fee and size, as a sum
abbrev pub rate_of : FeeRate → Sum
rate_of part = record { fee = part.fee; size = part.size }

-- fee and size of each part of an order
abbrev pub sums_of : List Part → List Sum
sums_of parts = map (λ part. part.rate) parts

-- Parts of falling rate, with sizes of at least 1. Each part, and the sum of each front of them, is in the range of a level's sums.
pub record AreLevelParts (parts : List Sum) : Type 0 where
  pub falling : Falls parts
  pub some : (part : Sum) → Contains parts part → 1 ≤ part.size
  pub ranged : (part : Sum) → Contains parts part → IsSum part
  pub fits : (front rest : List Sum) → parts ≡ front ++ rest → IsSum (sum_of front)

-- Every run of calls from s gives these parts, which are those of a level, and then none.
pub record YieldsParts {S : Type 0} (steps : S → Option FeeRate → S → Type 0) (s : S) (parts : List Sum) : Type 0 where
  pub yields : AlwaysYields steps rate_of s parts
  pub level : AreLevelParts parts

-- the fee and size of a part: in range, and the size at least 1
abbrev pub IsPartSum : Sum → Type 0
IsPartSum rate = (1 ≤ rate.size) × IsSum rate

-- a rate is at most the last one, where there is one
abbrev pub FallsTo : Option Sum → Sum → Type 0
FallsTo last rate = IfSome last (λ other. AtMost rate other)

-- a part may follow others, of which the last and the sum are given
pub record MayFollow (last : Option Sum) (end rate : Sum) : Type 0 where
  pub some : 1 ≤ rate.size
  pub ranged : IsSum rate
  pub falling : FallsTo last rate
  pub fits : InRange (end.fee +ℤ rate.fee) (end.size + rate.size)
