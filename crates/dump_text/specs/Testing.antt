-- What is tested of transactions and edges.
use Rattle.std.specs.Prelude.{◌≡◌, ◌⊎◌, ℕ, ◌<◌, List, Contains}
use Rattle.std.specs.List.Sorted.{IsStrictlyIncreasing}
use Rattle.graphs.specs.Graphs.{IsAncestor, IsCover}
use Rattle.graphs.specs.Certificates.{Txs}
use Rattle.graph_model.specs.Changes.{ids_of}
use Rattle.graph_model.specs.Dumps.{EdgesRise}
use Rattle.links.specs.Links.{AreAmong, AreInRange, AreSame, Links}
use Rattle.links.specs.Kept.{names_of}

-- of two edges the first has the lesser child, or the same child and the lesser parent
abbrev pub IsBefore : ℕ × ℕ → ℕ × ℕ → Type 0
IsBefore a b = (a.1 < b.1) ⊎ ((a.1 ≡ b.1) × (a.0 < b.0))

-- What is tested before the graph: names rise, fees and sizes are in range, and edges rise.
pub record AreInOrder (txs : Txs) (edges : List (ℕ × ℕ)) : Type 0 where
  pub names : IsStrictlyIncreasing (ids_of txs)
  pub rates : AreInRange txs
  pub rising : EdgesRise edges

-- each edge is a covering pair of the graph that the edges make
abbrev pub AreCovers : List (ℕ × ℕ) → Type 0
AreCovers edges = (parent child : ℕ) → Contains {X = ℕ × ℕ} edges (parent, child) → IsCover edges parent child

-- no other ancestor of the edge's parent is a parent of its child
abbrev pub StandsAlone : List (ℕ × ℕ) → ℕ × ℕ → Type 0
StandsAlone edges edge = (a : ℕ) → IsAncestor edges a edge.0 → Contains {X = ℕ × ℕ} edges (a, edge.1) → a ≡ edge.0

-- The links have these edges as their pairs, and their ends among their names.
pub record AreLinksOf (edges : List (ℕ × ℕ)) (links : Links) : Type 0 where
  pub same : AreSame edges links.pairs
  pub ends : AreAmong (names_of links.txs) edges
