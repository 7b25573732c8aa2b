-- Sets with all ancestors, or all descendants, of their names, and a graph without such a set.
use Rattle.std.specs.Prelude.{◌≡◌, ℕ, List, Contains, ◌⊎◌, ◌↔◌}
use Rattle.lists.specs.Distinct.{AreDistinct}
use Rattle.graphs.specs.Graphs.{Graph, IsAncestor, IsCover, IsGraph}

-- The set has the parents of each of its names, and so all ancestors.
abbrev pub HasParents : List (ℕ × ℕ) → List ℕ → Type 0
HasParents pairs set = (parent child : ℕ) → Contains pairs (parent, child) → Contains set child → Contains set parent

-- The set has the children of each of its names, and so all descendants.
abbrev pub HasChildren : List (ℕ × ℕ) → List ℕ → Type 0
HasChildren pairs set = (parent child : ℕ) → Contains pairs (parent, child) → Contains set parent → Contains set child

-- A descendant set: names of a graph, each once, with all their descendants.
pub record IsDescendantSet (graph : Graph) (set : List ℕ) : Type 0 where
  pub once : AreDistinct set
  pub inside : (id : ℕ) → Contains set id → Contains graph.names id
  pub children : HasChildren graph.pairs set

-- A graph without some of its names: they go with their pairs, and no pair comes in their place. The definition leaves open in which order
-- names and pairs are listed.
pub record DropsNames (old : Graph) (gone : List ℕ) (new : Graph) : Type 0 where
  pub names : (a : ℕ) → Contains new.names a ↔ (Contains old.names a × (Contains gone a → ⊥))
  pub names_once : AreDistinct new.names
  pub pairs : (a b : ℕ) → Contains new.pairs (a, b) ↔ ((Contains gone a → ⊥) × (Contains gone b → ⊥) × Contains old.pairs (a, b))
  pub pairs_once : AreDistinct new.pairs

-- From every graph names can be dropped, and a graph is left. Where the names that went had all their ancestors with them, or all their
-- descendants, the others keep the ancestors and the covering pairs that they had among them.
pub record DropsKeepAncestors : Type 0 where
  pub some : (old : Graph) (gone : List ℕ) → IsGraph old → (new : Graph) × DropsNames old gone new
  pub graph : (old new : Graph) (gone : List ℕ) → DropsNames old gone new → IsGraph old → IsGraph new
  pub ancestors : (old new : Graph) (gone : List ℕ) → DropsNames old gone new → HasParents old.pairs gone ⊎ HasChildren old.pairs gone
      → (a b : ℕ) → IsAncestor new.pairs a b ↔ ((a ≡ b) ⊎ ((Contains gone a → ⊥) × (Contains gone b → ⊥) × IsAncestor old.pairs a b))
  pub covers : (old new : Graph) (gone : List ℕ) → DropsNames old gone new → HasParents old.pairs gone ⊎ HasChildren old.pairs gone
      → (a b : ℕ) → IsCover new.pairs a b ↔ ((Contains gone a → ⊥) × (Contains gone b → ⊥) × IsCover old.pairs a b)
