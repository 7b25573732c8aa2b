-- The ranges of fees, in satoshis, and of sizes, in virtual bytes: of one transaction, and of a sum over at most MAX_TOTAL of them.
use Rattle.std.specs.Prelude.{ℕ, ◌*◌, ◌≤◌, ℤ, unsigned_abs}
use Rattle.fee_rate.specs.declared.rates.FeeRate.{FeeRate}
use Rattle.fee_rate.specs.declared.rates.Sum.{Sum}
use Rattle.fee_rate.specs.declared.limits.TheConstants.{MAX_FEE, MAX_SIZE, MAX_TOTAL}

-- what a transaction may pay: at most all the money there is, either way
abbrev pub IsFee : ℤ → Type 0
IsFee fee = unsigned_abs fee ≤ MAX_FEE

-- how large a transaction may be
abbrev pub IsSize : ℕ → Type 0
IsSize size = (1 ≤ size) × (size ≤ MAX_SIZE)

-- a transaction's fee and size are in range
pub record IsRate (r : FeeRate) : Type 0 where
  pub fee : IsFee r.fee
  pub some : 1 ≤ r.size
  pub size : r.size ≤ MAX_SIZE

-- fee and size are in the range of a sum over at most MAX_TOTAL transactions; an empty sum is one
pub record InRange (f : ℤ) (s : ℕ) : Type 0 where
  pub fee : unsigned_abs f ≤ MAX_FEE * MAX_TOTAL
  pub size : s ≤ MAX_SIZE * MAX_TOTAL

abbrev pub IsSum : Sum → Type 0
IsSum a = InRange a.fee a.size
