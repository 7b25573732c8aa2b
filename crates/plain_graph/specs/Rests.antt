-- What a change leaves of the transactions and of the pairs.
use Rattle.std.specs.Prelude.{◌≡◌, ◌≢◌, ℕ, ℤ, ◌==◌, not, if◌then◌else◌, List, filter, Contains, ◌⊎◌, ◌↔◌}
use Rattle.lists.specs.Distinct.{AreDistinct}
use Rattle.plain_graph.specs.declared.tx.Tx.{Tx}

-- a transaction with another fee, where it has the name
abbrev pub paying : ℕ → ℤ → Tx → Tx
paying id fee tx = if tx.id == id then record tx { fee = fee } else tx

-- the transactions of other names
abbrev pub without_name : ℕ → List Tx → List Tx
without_name id txs = filter (λ tx. not (tx.id == id)) txs

-- pairs with these properties were put where they weren't; what stood once each does so still
pub record Puts (P : ℕ → ℕ → Type 0) (old new : List (ℕ × ℕ)) : Type 0 where
  pub exact : (a b : ℕ) → Contains new (a, b) ↔ (Contains old (a, b) ⊎ P a b)
  pub once : AreDistinct old → AreDistinct new

-- the pair is this one
abbrev pub IsPair : ℕ → ℕ → ℕ → ℕ → Type 0
IsPair parent child a b = (a ≡ parent) × (b ≡ child)

-- from a parent to a child of the name, another one than the name
abbrev pub IsToChild : List (ℕ × ℕ) → ℕ → ℕ → ℕ → ℕ → Type 0
IsToChild pairs id parent a b = (a ≡ parent) × (b ≢ id) × Contains pairs (id, b)

-- a pair of the first that isn't of the name, or one from a parent by one of the first to a child by any
abbrev pub IsLeft : List (ℕ × ℕ) → List (ℕ × ℕ) → ℕ → ℕ → ℕ → Type 0
IsLeft first pairs id a b = (a ≢ id) × (b ≢ id) × (Contains first (a, b) ⊎ (Contains first (a, id) × Contains pairs (id, b)))

-- the pairs without a name, each parent of it a parent of each of its children
abbrev pub ArePairsWithout : List (ℕ × ℕ) → ℕ → List (ℕ × ℕ) → Type 0
ArePairsWithout old id new = ((a b : ℕ) → Contains new (a, b) ↔ IsLeft old old id a b) × AreDistinct new
