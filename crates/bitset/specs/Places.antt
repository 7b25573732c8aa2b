-- Sets of numbers, and their members as a rising list.
use Rattle.std.specs.Prelude.{◌≡◌, ℕ, zero, suc, ◌<◌, ◌≤◌, Bool, true, cond, List, filter}
use Rattle.std.specs.List.{range_with_len}
use Rattle.std.specs.Ordering.{nat_cmp}
use Rattle.std.specs.FinSet as set

-- the numbers below n that pass a test
unfoldable pub where_below : (ℕ → Bool) → ℕ → set.FinSet nat_cmp
where_below f zero = set.empty
where_below f (suc n) = cond (f n) (set.insert (where_below f n) n) (where_below f n)

-- the numbers below n
abbrev pub first_places : ℕ → set.FinSet nat_cmp
first_places n = where_below (λ _. true) n

-- the members below n, upward
abbrev pub places : ℕ → set.FinSet nat_cmp → List ℕ
places n s = filter (set.contains s) (range_with_len 0 n)

-- each member is below n
abbrev pub IsWithin : ℕ → set.FinSet nat_cmp → Type 0
IsWithin n s = (p : ℕ) → set.contains s p ≡ true → p < n

-- p is in the set, and nothing in the set is below p
pub record IsLeast (s : set.FinSet nat_cmp) (p : ℕ) : Type 0 where
  pub member : set.contains s p ≡ true
  pub below : (q : ℕ) → set.contains s q ≡ true → p ≤ q
