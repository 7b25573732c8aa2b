-- Fees in satoshis and sizes in virtual bytes, of names and of lists of names. A rate is a fee over a size; `fee_rate` compares rates
-- by exact products.
use Rattle.std.specs.Prelude.{ℕ, ◌≤◌, List, [], ◌∷◌, sum_by, Contains}
use Rattle.arithmetic.specs.Sums.{total}
use Rattle.fee_rate.specs.declared.rates.Sum.{Sum}
use Rattle.fee_rate.specs.Rates.{AtMost}

-- The total of a list of sums.
abbrev pub sum_of : List Sum → Sum
sum_of parts = record { fee = total (λ part. part.fee) parts; size = sum_by (λ part. part.size) parts }

-- The total fee and the total size of a list of names.
abbrev pub sums : (ℕ → Sum) → List ℕ → Sum
sums rate ids = record { fee = total (λ id. (rate id).fee) ids; size = sum_by (λ id. (rate id).size) ids }

-- Each name has a size of at least 1.
abbrev pub HasSizes : (ℕ → Sum) → List ℕ → Type 0
HasSizes rate ids = (id : ℕ) → Contains ids id → 1 ≤ (rate id).size

-- No rate is greater than the one before it.
abbrev pub Falls : List Sum → Type 0
Falls [] = Unit {0}
Falls (a ∷ []) = Unit {0}
Falls (a ∷ b ∷ rest) = AtMost b a × Falls (b ∷ rest)
