-- The kin of names: their ancestors, or their descendants; and the union of these over some names together.
use Rattle.std.specs.Prelude.{◌≡◌, ℕ, List, Bool, true, Contains, ◌++◌, ◌↔◌}
use Rattle.lists.specs.Distinct.{AreDistinct}
use Rattle.graphs.specs.Graphs.{IsAncestor}
use Rattle.graphs.specs.Closures.{Closure, is_ancestor}
use Rattle.graphs.specs.declared.names.Kin.{Kin}
use Rattle.graphs.specs.declared.names.Kin.TheVariants.{Ancestors, Descendants}

-- a is kin of b: its ancestor, or its descendant.
abbrev pub IsKin : Kin → List (ℕ × ℕ) → ℕ → ℕ → Type 0
IsKin Ancestors pairs a b = IsAncestor pairs a b
IsKin Descendants pairs a b = IsAncestor pairs b a

-- Likewise in a closure.
abbrev pub is_kin : Kin → Closure → ℕ → ℕ → Bool
is_kin Ancestors g a b = is_ancestor g a b
is_kin Descendants g a b = is_ancestor g b a

-- a is kin of one of these names.
abbrev pub IsKinOfSome : Kin → Closure → List ℕ → ℕ → Type 0
IsKinOfSome kin g ids a = (id : ℕ) × Contains ids id × (is_kin kin g a id ≡ true)

-- The names with a property come behind a list, each once.
pub record PutsBehind (P : ℕ → Type 0) (old new : List ℕ) : Type 0 where
  pub more : List ℕ
  pub behind : new ≡ old ++ more
  pub once : AreDistinct more
  pub exact : (a : ℕ) → Contains more a ↔ P a
