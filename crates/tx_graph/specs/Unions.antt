-- The ancestors or descendants of some transactions together, and the components that these lie in. Names that the graph hasn't are passed
-- over.
use Rattle.std.specs.Prelude.{◌≡◌, ◌↔◌, ℕ, List, length, flat_map, Contains}
use Rattle.lists.specs.Distinct.{AreDistinct}
use Rattle.graphs.specs.declared.names.Kin.{Kin}
use Rattle.graphs.specs.Graphs.{Graph, AreConnected}
use Rattle.graphs.specs.Unions.{IsKin}

-- a is an ancestor, or a descendant, of one of these transactions of the graph
abbrev pub IsKinIn : Kin → Graph → List ℕ → ℕ → Type 0
IsKinIn kin graph ids a = (id : ℕ) × Contains ids id × Contains graph.names id × IsKin kin graph.pairs a id

-- The components that have one of these transactions, each once, as lists of their names.
pub record AreTheirComponents (graph : Graph) (ids : List ℕ) (components : List (List ℕ)) : Type 0 where
  pub each : (names : List ℕ) → Contains components names
      → (id : ℕ) × Contains ids id × Contains graph.names id × ((q : ℕ) → Contains names q ↔ AreConnected graph.pairs id q)
  pub once : AreDistinct (flat_map (λ names. names) components)
  pub all : (id : ℕ) → Contains ids id → Contains graph.names id → (names : List ℕ) × Contains components names × Contains names id

-- they lie in so many components
abbrev pub LieInComponents : Graph → List ℕ → ℕ → Type 0
LieInComponents graph ids count = (components : List (List ℕ)) × AreTheirComponents graph ids components × (count ≡ length components)

-- their components have so many names
abbrev pub HaveComponentsOf : Graph → List ℕ → ℕ → Type 0
HaveComponentsOf graph ids names =
    (components : List (List ℕ)) × AreTheirComponents graph ids components × (names ≡ length (flat_map (λ c. c) components))
