-- Transactions of which one name has another fee.
use Rattle.std.specs.Prelude.{ℕ, ℤ, ◌==◌, if◌then◌else◌}

-- the transaction, with this fee where its name is that one
abbrev pub priced : ℕ → ℤ → ℕ × ℤ × ℕ → ℕ × ℤ × ℕ
priced id fee tx = (tx.0, (if tx.0 == id then fee else tx.1), tx.2)
