-- Orders of counts, from what is known of them.
use Rattle.std.proofs.Common.{◌≡◌, ℕ, ◌<◌, ◌≤◌, arith}

-- a place before the end is one of all
pub below_all : {at end len n : ℕ} → at < end → end ≡ len → len ≡ n → at < n
below_all first second third = omega arith

-- and past the end are all
pub past_all : {at end len n : ℕ} → end ≤ at → end ≡ len → len ≡ n → n ≤ at
past_all first second third = omega arith

-- equal counts are in order, both ways
pub not_fewer : {m n : ℕ} → n ≡ m → m ≤ n
not_fewer same = omega arith

pub not_more : {m n : ℕ} → n ≡ m → n ≤ m
not_more same = omega arith
