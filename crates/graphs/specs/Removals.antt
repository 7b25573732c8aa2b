-- A graph without one of its names.
use Rattle.std.specs.Prelude.{◌≢◌, ℕ, Contains, ◌⊎◌, ◌↔◌}
use Rattle.lists.specs.Distinct.{AreDistinct}
use Rattle.graphs.specs.Graphs.{Graph}

-- A graph without a name: each parent of the name becomes a parent of each of its children, and then the name goes with its pairs. So the
-- others keep their ancestors. The definition leaves open in which order names and pairs are listed.
pub record IsWithout (old : Graph) (id : ℕ) (new : Graph) : Type 0 where
  pub names : (a : ℕ) → Contains new.names a ↔ (Contains old.names a × (a ≢ id))
  pub names_once : AreDistinct new.names
  pub pairs : (a b : ℕ)
      → Contains new.pairs (a, b) ↔ ((a ≢ id) × (b ≢ id) × (Contains old.pairs (a, b) ⊎ (Contains old.pairs (a, id) × Contains old.pairs (id, b))))
  pub pairs_once : AreDistinct new.pairs
