-- What is made of clusters, told by names.
use Rattle.std.specs.Prelude.{◌≡◌, ◌≢◌, ◌⊎◌, ◌↔◌, ℕ, ◌<◌, ◌≤◌, Bool, true, ◌&&◌, ◌||◌, nat_eq, List, [], ◌∷◌, length, slice_index, flat_map, Contains}
use Rattle.std.specs.Ordering.{nat_cmp}
use Rattle.std.specs.FinSet as set
use Rattle.std.specs.List.{AllPairs}
use Rattle.lists.specs.Distinct.{AreDistinct}
use Rattle.lists.specs.Walks.{Walk}
use Rattle.bitset.specs.Places.{places}
use Rattle.graphs.specs.Closures.{Closure, is_member, is_ancestor, members_of, rate_of, IsRelated}
use Rattle.fee_rate.specs.declared.rates.FeeRate.{FeeRate}
use Rattle.cluster.specs.Clusters.{Cluster, AreApart}

-- the cluster of one name
pub record IsSingle (id : ℕ) (rate : FeeRate) (c : Cluster) : Type 0 where
  pub names : c.names ≡ id ∷ []
  pub rate_is : rate_of c.graph id ≡ rate
  pub ancestors : (a d : ℕ) → is_ancestor c.graph a d ≡ (nat_eq a id && nat_eq d id)

-- names for the members of a graph: one at least, as many as there are members, and no name twice
pub record AreNamesOf (dep : Closure) (names : List ℕ) : Type 0 where
  pub some : 1 ≤ length names
  pub each : length names ≡ set.len (members_of dep)
  pub once : AreDistinct names

-- The cluster of the members of a graph, which are below n: the names of the list, of which the first has what the least member
-- has, the second what the next one has, and so on, its fee and size and its ancestors among them.
pub record TakesNames (n : ℕ) (dep : Closure) (names : List ℕ) (c : Cluster) : Type 0 where
  pub names_are : c.names ≡ names
  pub rates : (i : ℕ) → i < length names → rate_of c.graph (slice_index names i) ≡ rate_of dep (slice_index (places n (members_of dep)) i)
  pub ancestors : (i j : ℕ) → i < length names → j < length names → is_ancestor c.graph (slice_index names i) (slice_index names j)
      ≡ is_ancestor dep (slice_index (places n (members_of dep)) i) (slice_index (places n (members_of dep)) j)

-- a is an ancestor of d in one of two graphs
abbrev pub is_above : Closure → Closure → ℕ → ℕ → Bool
is_above f g a d = is_ancestor f a d || is_ancestor g a d

-- the names of two graphs, and one more pair, from a parent in the one to a child in the other
pub record Joins (f g : Closure) (parent child : ℕ) (h : Closure) : Type 0 where
  pub first_rates : (id : ℕ) → is_member f id ≡ true → rate_of h id ≡ rate_of f id
  pub second_rates : (id : ℕ) → is_member g id ≡ true → rate_of h id ≡ rate_of g id
  pub ancestors : (a d : ℕ) → is_ancestor h a d ≡ (is_above f g a d || (is_above f g a parent && is_above f g child d))

-- a parent in the one, a child in the other
abbrev pub AreAcross : List ℕ → List ℕ → ℕ → ℕ → Type 0
AreAcross xs ys parent child = (Contains xs parent × Contains ys child) ⊎ (Contains ys parent × Contains xs child)

-- the same members, with the same rates and the same relation
pub record IsSame (old new : Closure) : Type 0 where
  pub members : (p : ℕ) → is_member new p ≡ is_member old p
  pub rates : (p : ℕ) → rate_of new p ≡ rate_of old p
  pub ancestors : (a d : ℕ) → is_ancestor new a d ≡ is_ancestor old a d

-- the name of a place of the set
abbrev pub IsChosen : List ℕ → set.FinSet nat_cmp → ℕ → Type 0
IsChosen names chosen id = (p : ℕ) × (p < length names) × (set.contains chosen p ≡ true) × (slice_index names p ≡ id)

-- some names of a graph, with their rates and the relation among them
pub record IsPartOf (names : List ℕ) (old : Closure) (chosen : set.FinSet nat_cmp) (own : List ℕ) (new : Closure) : Type 0 where
  pub names_are : (id : ℕ) → Contains own id ↔ IsChosen names chosen id
  pub rates : (id : ℕ) → Contains own id → rate_of new id ≡ rate_of old id
  pub ancestors : (a d : ℕ) → (is_ancestor new a d ≡ true) ↔ (IsChosen names chosen a × IsChosen names chosen d × (is_ancestor old a d ≡ true))

-- in one of the clusters, a is an ancestor of d
abbrev pub IsAncestorIn : List Cluster → ℕ → ℕ → Type 0
IsAncestorIn parts a d = (c : Cluster) × Contains parts c × (is_ancestor c.graph a d ≡ true)

-- What is left of a graph without some names: each part has a name, the other names keep their rates and the relation
-- among themselves, and names that are related are in one part.
pub record IsSplit (old : Closure) (gone : List ℕ) (parts : List Cluster) : Type 0 where
  pub ancestors : (a d : ℕ) → IsAncestorIn parts a d
      ↔ ((Contains gone a → ⊥) × (Contains gone d → ⊥) × (is_ancestor old a d ≡ true))
  pub rates : (c : Cluster) → Contains parts c → (id : ℕ) → Contains c.names id → rate_of c.graph id ≡ rate_of old id
  pub apart : AllPairs AreApart parts
  pub filled : (c : Cluster) → Contains parts c → c.names ≢ []

-- ---- the components of what is left

-- a name of a graph that is left without some names
abbrev pub IsLeft : Closure → List ℕ → ℕ → Type 0
IsLeft g gone id = (is_member g id ≡ true) × (Contains gone id → ⊥)

-- one of two names that are left is an ancestor of the other
abbrev pub AreNearLeft : Closure → List ℕ → ℕ → ℕ → Type 0
AreNearLeft g gone a b = IsLeft g gone a × IsLeft g gone b × IsRelated g a b

-- Lists of names, one for each component of what is left of a graph without some names.
pub record AreComponents (g : Closure) (gone : List ℕ) (lists : List (List ℕ)) : Type 0 where
  pub once : AreDistinct (flat_map (λ ids. ids) lists)
  pub exact : (id : ℕ) → Contains (flat_map (λ ids. ids) lists) id ↔ IsLeft g gone id
  pub whole : (ids : List ℕ) → Contains lists ids → (a b : ℕ) → Contains ids a → Contains ids b → Walk (AreNearLeft g gone) a b
  pub alone : (ids : List ℕ) → Contains lists ids → (a b : ℕ) → Contains ids a → AreNearLeft g gone a b → Contains ids b
