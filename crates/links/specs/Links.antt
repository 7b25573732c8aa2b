-- Links: transactions, each a name, a fee and a size, and their dependencies as pairs (parent, child), without an order.
use Rattle.std.specs.Prelude.{◌↔◌, ℕ, ℤ, List, Contains}
use Rattle.fee_rate.specs.Limits.{IsFee, IsSize}
use Rattle.graphs.specs.Graphs.{Graph, IsGraph}
use Rattle.graphs.specs.Certificates.{Txs, graph_of}
pub use Rattle.places.specs.Places.{AreAmong}

pub record Links : Type 0 where
  pub txs : Txs
  pub pairs : List (ℕ × ℕ)

-- the plain graph that links are
abbrev pub graph : Links → Graph
graph links = graph_of links.txs links.pairs

-- it has this name
abbrev pub Has : Links → ℕ → Type 0
Has links id = Contains (graph links).names id

-- Fees and sizes are within their limits.
abbrev pub AreInRange : Txs → Type 0
AreInRange txs = (id : ℕ) (fee : ℤ) (size : ℕ) → Contains {X = ℕ × ℤ × ℕ} txs (id, fee, size) → IsFee fee × IsSize size

-- What holds of all links: names and pairs stand once each, pairs are of names, there is no cycle, and fees and sizes are in range.
pub record AreLinks (links : Links) : Type 0 where
  pub in_range : AreInRange links.txs
  pub graph_is : IsGraph (graph links)

-- Two lists have the same pairs, in whatever order and however often.
abbrev pub AreSame : List (ℕ × ℕ) → List (ℕ × ℕ) → Type 0
AreSame old new = (a b : ℕ) → Contains {X = ℕ × ℕ} new (a, b) ↔ Contains {X = ℕ × ℕ} old (a, b)
