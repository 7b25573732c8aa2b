-- Lists of pairs in which each pair stands once.
use Rattle.std.specs.Prelude.{◌≡◌, ◌↔◌, ◌⊎◌, ℕ, Bool, true, List, Contains}
use Rattle.lists.specs.Distinct.{AreDistinct}

-- What a set has is what stands in the list, each pair once.
pub record ListsSet (has : ℕ × ℕ → Bool) (list : List (ℕ × ℕ)) : Type 0 where
  pub once : AreDistinct list
  pub exact : (pair : ℕ × ℕ) → (has pair ≡ true) ↔ Contains list pair

-- The list has one pair more, or had it.
abbrev pub HasMore : List (ℕ × ℕ) → List (ℕ × ℕ) → ℕ × ℕ → Type 0
HasMore old new pair = (other : ℕ × ℕ) → Contains new other ↔ (Contains old other ⊎ ◌≡◌ {A = ℕ × ℕ} pair other)

-- two lists have no name in common
abbrev pub AreSplit : List ℕ → List ℕ → Type 0
AreSplit one two = (id : ℕ) → Contains one id → Contains two id → ⊥

-- a parent in the one, a child in the other
abbrev pub AreAcross : List ℕ → List ℕ → ℕ → ℕ → Type 0
AreAcross one two parent child = (Contains one parent × Contains two child) ⊎ (Contains two parent × Contains one child)
