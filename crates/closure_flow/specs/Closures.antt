-- Closed sets of greatest weight, and the balanced flow that shows that none has positive weight. Places are numbers
-- below n, weights are integers, and each place may have parents. This is the maximum closure problem, solved by
-- maximum flow (Picard, 1976).
use Rattle.std.specs.Prelude.{◌≡◌, ℕ, ◌<◌, true, List, length, get_or, ℤ, pos, ◌-ℤ◌, ◌≤ℤ◌, int_lt}
use Rattle.std.specs.List.{count_by, sum_by}
use Rattle.std.specs.Ordering.{nat_cmp}
use Rattle.std.specs.FinSet as set
use Rattle.arithmetic.specs.Sums.{total}
use Rattle.bitset.specs.Places.{places}

-- the weight of a place
abbrev pub weight_at : List ℤ → ℕ → ℤ
weight_at weights t = get_or weights t (pos 0)

-- the parents of a place
abbrev pub parents_at : List (set.FinSet nat_cmp) → ℕ → set.FinSet nat_cmp
parents_at parents t = get_or parents t set.empty

-- the weight of a set of places below n
abbrev pub weight_of : ℕ → List ℤ → set.FinSet nat_cmp → ℤ
weight_of n weights s = total (weight_at weights) (places n s)

-- how many places of a set have negative weight
abbrev pub negatives : ℕ → List ℤ → set.FinSet nat_cmp → ℕ
negatives n weights s = count_by (λ t. int_lt (weight_at weights t) (pos 0)) (places n s)

-- a list has an entry for each place of a set
abbrev pub HasEach : {A : Type 0} → set.FinSet nat_cmp → List A → Type 0
HasEach within xs = (t : ℕ) → set.contains within t ≡ true → t < length xs

-- a set lies in another and holds each parent, of the other, of its members
pub record IsClosed (parents : List (set.FinSet nat_cmp)) (within s : set.FinSet nat_cmp) : Type 0 where
  pub inside : (t : ℕ) → set.contains s t ≡ true → set.contains within t ≡ true
  pub upward : (t p : ℕ) → set.contains s t ≡ true → set.contains (parents_at parents t) p ≡ true
      → set.contains within p ≡ true → set.contains s p ≡ true

-- no closed set weighs more
abbrev pub IsNoneHeavier : ℕ → List ℤ → List (set.FinSet nat_cmp) → set.FinSet nat_cmp → ℤ → Type 0
IsNoneHeavier n weights parents within most =
    (s : set.FinSet nat_cmp) → IsClosed parents within s → weight_of n weights s ≤ℤ most

-- flow runs from children to their parents within a set alone, and what leaves each place of the set, less what comes
-- in, is the place's weight
pub record IsBalanced (n : ℕ) (weights : List ℤ) (parents : List (set.FinSet nat_cmp))
    (within : set.FinSet nat_cmp) (flow : ℕ → ℕ → ℕ) : Type 0 where
  pub even : (t : ℕ) → set.contains within t ≡ true
      → weight_at weights t
      ≡ pos (sum_by (λ p. flow t p) (places n within)) -ℤ pos (sum_by (λ c. flow c t) (places n within))
  pub child : (c p : ℕ) → 0 < flow c p → set.contains within c ≡ true
  pub parent : (c p : ℕ) → 0 < flow c p → set.contains within p ≡ true
  pub pair : (c p : ℕ) → 0 < flow c p → set.contains (parents_at parents c) p ≡ true
