-- Transaction graphs as plain data: names of transactions, and dependencies as pairs (parent, child). As in Bitcoin Core's `txgraph.h`,
-- a transaction is an ancestor and a descendant of itself.
use Rattle.std.specs.Prelude.{◌≡◌, ℕ, List, Contains, ◌⊎◌, ◌↔◌, suc, zero}
use Rattle.std.specs.List.Sorted.{IsStrictlyIncreasing}
use Rattle.lists.specs.Distinct.{AreDistinct}

pub record Graph : Type 0 where
  pub names : List ℕ
  pub pairs : List (ℕ × ℕ)

-- A walk of n pairs leads from a to b, each pair from a parent to its child.
abbrev pub Walk : List (ℕ × ℕ) → ℕ → ℕ → ℕ → Type 0
Walk pairs a b zero = a ≡ b
Walk pairs a b (suc n) = (c : ℕ) × Walk pairs a c n × Contains pairs (c, b)

-- a is an ancestor of b: b itself, a parent of b, a parent of such a parent, and so on.
abbrev pub IsAncestor : List (ℕ × ℕ) → ℕ → ℕ → Type 0
IsAncestor pairs a b = (n : ℕ) × Walk pairs a b n

-- No walk of one pair or more leads from a name to itself.
abbrev pub HasNoCycle : List (ℕ × ℕ) → Type 0
HasNoCycle pairs = (a n : ℕ) → Walk pairs a a (suc n) → ⊥

-- A trail of n pairs leads from a to b. Each pair may be taken in either direction.
abbrev pub Trail : List (ℕ × ℕ) → ℕ → ℕ → ℕ → Type 0
Trail pairs a b zero = a ≡ b
Trail pairs a b (suc n) = (c : ℕ) × Trail pairs a c n × (Contains pairs (c, b) ⊎ Contains pairs (b, c))

-- a and b are in one component, which Bitcoin Core calls a cluster.
abbrev pub AreConnected : List (ℕ × ℕ) → ℕ → ℕ → Type 0
AreConnected pairs a b = (n : ℕ) × Trail pairs a b n

-- a is a covering parent of b: no third name stands between the two. Such a pair is a dependency that no other pairs imply.
pub record IsCover (pairs : List (ℕ × ℕ)) (a b : ℕ) : Type 0 where
  pub ancestor : IsAncestor pairs a b
  pub other : a ≡ b → ⊥
  pub between : (c : ℕ) → IsAncestor pairs a c → IsAncestor pairs c b → (c ≡ a) ⊎ (c ≡ b)

-- A graph: each name and each pair is listed once, pairs are of names, and there is no cycle.
pub record IsGraph (graph : Graph) : Type 0 where
  pub names : AreDistinct graph.names
  pub pairs : AreDistinct graph.pairs
  pub ends : (parent child : ℕ) → Contains graph.pairs (parent, child) → Contains graph.names parent × Contains graph.names child
  pub acyclic : HasNoCycle graph.pairs

-- The list has exactly the numbers with a property, each once, in rising order.
pub record Lists (P : ℕ → Type 0) (ids : List ℕ) : Type 0 where
  pub rising : IsStrictlyIncreasing ids
  pub exact : (id : ℕ) → Contains ids id ↔ P id
