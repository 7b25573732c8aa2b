-- Products of a fee and a size under the limits fit 128 bits.
use Rattle.std.proofs.Common.{ℕ, ◌*◌, ◌^◌, ◌<◌, ◌≤◌, ℤ, pos, ◌*ℤ◌, unsigned_abs}
use Rattle.std.proofs.lemmas.Int.{unsigned_abs-mul}
use Rattle.std.proofs.lemmas.Nat.{mul-le}

-- a product is at most the product of the bounds of its factors
pub product_bound : (f : ℤ) (s : ℕ) (m n : ℕ) → unsigned_abs f ≤ m → s ≤ n → unsigned_abs (f *ℤ pos s) ≤ m * n
product_bound f s m n a b = rw (unsigned_abs-mul f (pos s)) (mul-le (unsigned_abs f) s m n a b)
