-- Words of 64 bits, and the set of places that they stand for.
use Rattle.std.specs.Prelude.{◌≡◌, ℕ, zero, suc, ◌+◌, ◌*◌, ◌/◌, ◌%◌, ◌^◌, ◌<◌, ◌≤◌, Bool, cond, nat_eq, List, map, length, slice_index}
use Rattle.std.specs.Int.{bit_at}
use Rattle.std.specs.List.{range_with_len}
use Rattle.std.specs.Ordering.{nat_cmp}
use Rattle.std.specs.FinSet as set
use Rattle.bitset.specs.Places.{where_below}

-- whether bit i of a number is 1
abbrev pub is_set : ℕ → ℕ → Bool
is_set n i = nat_eq (bit_at n i) 1

-- whether bit q % 64 of word q / 64 is 1
abbrev pub is_place : List ℕ → ℕ → Bool
is_place words q = is_set (slice_index words (q / 64)) (q % 64)

-- the set of these places
unfoldable pub members_of : List ℕ → set.FinSet nat_cmp
members_of words = where_below (is_place words) (64 * length words)

-- the number whose bits below n are those of a test
unfoldable pub number_of : (ℕ → Bool) → ℕ → ℕ
number_of f zero = 0
number_of f (suc n) = cond (f n) 1 0 * 2 ^ n + number_of f n

-- the w words of a set
unfoldable pub words_of : ℕ → set.FinSet nat_cmp → List ℕ
words_of w s = map (λ i. number_of (λ k. set.contains s (64 * i + k)) 64) (range_with_len 0 w)

-- w words of 64 bits. A place is itself a number of 64 bits, so a word behind the last of these has no bit set
pub record AreWords (w : ℕ) (words : List ℕ) : Type 0 where
  pub long : length words ≡ w
  pub fit : (i : ℕ) → slice_index words i < 2 ^ 64
  pub empty_behind : (i : ℕ) → 2 ^ 58 ≤ i → slice_index words i ≡ 0
