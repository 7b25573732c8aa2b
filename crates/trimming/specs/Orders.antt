-- Which transaction is looked at first.
use Rattle.std.specs.Prelude.{ℕ, ℤ, pos, ◌*ℤ◌, Bool, max}
use Rattle.std.specs.Ordering.{is_lt, int_cmp, nat_cmp, ordering_then}
use Rattle.fee_rate.specs.declared.rates.FeeRate.{FeeRate}

-- the fee and the size of a transaction, where a size of 0 counts as 1
abbrev pub some_rate : ℕ × ℤ × ℕ → FeeRate
some_rate tx = record { fee = tx.1; size = max tx.2 1 }

-- the rate of the first is greater, or the rates are the same and its name is less
abbrev pub goes_before : ℕ × ℤ × ℕ → ℕ × ℤ × ℕ → Bool
goes_before a b = is_lt (ordering_then
    (int_cmp ((some_rate b).fee *ℤ pos (some_rate a).size) ((some_rate a).fee *ℤ pos (some_rate b).size))
    (nat_cmp a.0 b.0))
