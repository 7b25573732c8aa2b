-- Walks along pairs, one way or both, and the lists of names that they lead to.
use Rattle.std.specs.Prelude.{◌≡◌, ℕ, ◌≤◌, Bool, true, false, List, length, Contains, ◌⊎◌}
use Rattle.graphs.specs.Graphs.{IsAncestor, AreConnected}
use Rattle.plain_graph.specs.declared.walk.Way.{Way}
use Rattle.plain_graph.specs.declared.walk.Way.TheVariants.{Up, Down, Either}

abbrev pub goes_up : Way → Bool
goes_up Up = true
goes_up Down = false
goes_up Either = true

abbrev pub goes_down : Way → Bool
goes_down Up = false
goes_down Down = true
goes_down Either = true

-- a pair leads this way from a to b
abbrev pub Leads : Way → List (ℕ × ℕ) → ℕ → ℕ → Type 0
Leads way pairs a b = ((goes_up way ≡ true) × Contains pairs (b, a)) ⊎ ((goes_down way ≡ true) × Contains pairs (a, b))

-- a walk leads this way from a to b
abbrev pub Reaches : Way → List (ℕ × ℕ) → ℕ → ℕ → Type 0
Reaches Up pairs a b = IsAncestor pairs b a
Reaches Down pairs a b = IsAncestor pairs a b
Reaches Either pairs a b = AreConnected pairs a b

-- a walk leads this way to b from one of the starts
abbrev pub ReachesFrom : Way → List (ℕ × ℕ) → List ℕ → ℕ → Type 0
ReachesFrom way pairs starts b = (a : ℕ) × Contains starts a × Reaches way pairs a b

-- a pair doesn't lead out of the list
pub record PairStays (way : Way) (ids : List ℕ) (parent child : ℕ) : Type 0 where
  pub up : goes_up way ≡ true → Contains ids child → Contains ids parent
  pub down : goes_down way ≡ true → Contains ids parent → Contains ids child

-- no pair leads out of the list
abbrev pub IsClosed : Way → List (ℕ × ℕ) → List ℕ → Type 0
IsClosed way pairs ids = (parent child : ℕ) → Contains pairs (parent, child) → PairStays way ids parent child

-- a pair leads out of the list to this name
pub record LeadsOut (way : Way) (pairs : List (ℕ × ℕ)) (ids : List ℕ) (id : ℕ) : Type 0 where
  pub from : ℕ
  pub inside : Contains ids from
  pub lead : Leads way pairs from id
  pub outside : Contains ids id → ⊥

-- both ends of each pair are among the names
abbrev pub EndsAreAmong : List ℕ → List (ℕ × ℕ) → Type 0
EndsAreAmong names pairs = (parent child : ℕ) → Contains pairs (parent, child) → Contains names parent × Contains names child

-- so many places hold all the names that walks from the starts can lead to
pub record HoldsAll (pairs : List (ℕ × ℕ)) (starts : List ℕ) (places : ℕ) : Type 0 where
  pub names : List ℕ
  pub ends : EndsAreAmong names pairs
  pub inside : (id : ℕ) → Contains starts id → Contains names id
  pub enough : length names ≤ places
