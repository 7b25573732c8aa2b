-- Some components of a graph, as a graph of their own.
use Rattle.std.specs.Prelude.{◌↔◌, ℕ, Contains}
use Rattle.graphs.specs.Graphs.{Graph, AreConnected, IsAncestor}

-- A graph has some whole components of another: names of that graph, with all that are connected to them there, and with the ancestors that
-- they have there, by whatever pairs.
pub record HasComponentsOf (whole part : Graph) : Type 0 where
  pub names : (id : ℕ) → Contains part.names id → Contains whole.names id
  pub closed : (a b : ℕ) → Contains part.names a → AreConnected whole.pairs a b → Contains part.names b
  pub ancestors : (a d : ℕ) → Contains part.names d → IsAncestor part.pairs a d ↔ IsAncestor whole.pairs a d
