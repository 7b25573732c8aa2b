-- Tight sets: closed sets that weigh nothing, where a balanced flow shows that none weighs more. A closed set is tight
-- exactly where no flow enters it from outside, so that a search finds those that hold a place.
use Rattle.std.specs.Prelude.{◌≡◌, ℕ, ◌<◌, ◌≤◌, true, false, List, ℤ, pos}
use Rattle.std.specs.Ordering.{nat_cmp}
use Rattle.std.specs.FinSet as set
use Rattle.closure_flow.specs.Closures.{IsBalanced, IsClosed, parents_at, weight_of}

-- a flow balances some weights
abbrev pub IsBalancing : ℕ → List (set.FinSet nat_cmp) → set.FinSet nat_cmp → (ℕ → ℕ → ℕ) → Type 0
IsBalancing n parents within flow = (weights : List ℤ) × IsBalanced n weights parents within flow

-- a closed set of weight 0
pub record IsTight (n : ℕ) (weights : List ℤ) (parents : List (set.FinSet nat_cmp))
    (within s : set.FinSet nat_cmp) : Type 0 where
  pub closed : IsClosed parents within s
  pub even : weight_of n weights s ≡ pos 0

-- a tight set that holds a place, and lies in every tight set that holds it
pub record IsLeastTight (n : ℕ) (weights : List ℤ) (parents : List (set.FinSet nat_cmp)) (within : set.FinSet nat_cmp)
    (place : ℕ) (s : set.FinSet nat_cmp) : Type 0 where
  pub tight : IsTight n weights parents within s
  pub holds : set.contains s place ≡ true
  pub least : (x : set.FinSet nat_cmp) → IsTight n weights parents within x → set.contains x place ≡ true
      → (t : ℕ) → set.contains s t ≡ true → set.contains x t ≡ true

-- a tight set with at least one place, and no such set has fewer
pub record IsSmallestTight (n : ℕ) (weights : List ℤ) (parents : List (set.FinSet nat_cmp))
    (within s : set.FinSet nat_cmp) : Type 0 where
  pub tight : IsTight n weights parents within s
  pub some : 0 < set.len s
  pub fewest : (x : set.FinSet nat_cmp) → IsTight n weights parents within x → 0 < set.len x → set.len s ≤ set.len x

-- ---- what a search finds

-- a set with the parents, of another set, of its members, and with the places that send them flow
pub record IsDrawn (n : ℕ) (parents : List (set.FinSet nat_cmp)) (within : set.FinSet nat_cmp) (flow : ℕ → ℕ → ℕ)
    (s : set.FinSet nat_cmp) : Type 0 where
  pub inside : (t : ℕ) → set.contains s t ≡ true → set.contains within t ≡ true
  pub along : (t p : ℕ) → set.contains s t ≡ true → set.contains (parents_at parents t) p ≡ true
      → set.contains within p ≡ true → set.contains s p ≡ true
  pub against : (t c : ℕ) → set.contains s t ≡ true → c < n → 0 < flow c t → set.contains s c ≡ true

-- each drawn set that holds a place holds this set too
abbrev pub IsDrawnBy : ℕ → List (set.FinSet nat_cmp) → set.FinSet nat_cmp → (ℕ → ℕ → ℕ) → ℕ → set.FinSet nat_cmp → Type 0
IsDrawnBy n parents within flow place s =
    (x : set.FinSet nat_cmp) → IsDrawn n parents within flow x → set.contains x place ≡ true
    → (t : ℕ) → set.contains s t ≡ true → set.contains x t ≡ true

-- no place is in both
abbrev pub AreApart : set.FinSet nat_cmp → set.FinSet nat_cmp → Type 0
AreApart s x = (t : ℕ) → set.contains s t ≡ true → set.contains x t ≡ false

-- a drawn set with at least one place, and no such set has fewer
pub record IsFewestDrawn (n : ℕ) (parents : List (set.FinSet nat_cmp)) (within : set.FinSet nat_cmp)
    (flow : ℕ → ℕ → ℕ) (s : set.FinSet nat_cmp) : Type 0 where
  pub drawn : IsDrawn n parents within flow s
  pub some : 0 < set.len s
  pub fewest : (x : set.FinSet nat_cmp) → IsDrawn n parents within flow x → 0 < set.len x → set.len s ≤ set.len x
