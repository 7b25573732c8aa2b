-- The tables that the tests after the first look into, and what they stand for.
use Rattle.std.specs.Prelude.{◌≡◌, ◌↔◌, ℕ, ℤ, ◌≤◌, List, [], length, map, nat_eq, Contains, IsTrue, ◌&&◌, vec_capacity}
use Rattle.std.specs.HashMap as hash
use Rattle.std.specs.HashSet as bag
use Rattle.fee_rate.specs.declared.limits.TheConstants.{MAX_TOTAL}
use Rattle.fee_rate.specs.Limits.{IsFee, IsSize}
use Rattle.graphs.specs.Certificates.{Txs}
use Rattle.certificate.specs.declared.graph.Tables.{Tables}
use Rattle.places.specs.Places.{ArePlaces}
use Rattle.certificate.specs.Places.{ArePairs}

-- The names of transactions.
abbrev pub names_of : Txs → List ℕ
names_of txs = map (λ tx. tx.0) txs

-- There are few enough transactions, and fees and sizes are within the limits.
pub record AreInLimits (txs : Txs) : Type 0 where
  pub few : length txs ≤ MAX_TOTAL
  pub limits : (id : ℕ) (fee : ℤ) (size : ℕ) → Contains txs (id, fee, size) → IsFee fee × IsSize size

-- The tables find each name and each edge, and have the places of each edge's ends.
pub record AreTables (txs : Txs) (edges : List (ℕ × ℕ)) (tables : Tables) : Type 0 where
  pub places : ArePlaces (names_of txs) (hash.get nat_eq tables.names)
  pub pairs : ArePairs (names_of txs) edges tables.pairs.items
  pub set : (edge : ℕ × ℕ) → IsTrue (bag.contains (λ x y. nat_eq x.0 y.0 && nat_eq x.1 y.1) tables.edges edge) ↔ Contains edges edge

-- The tables are empty, and have room for so many transactions and edges.
pub record HaveRoom (many many_edges : ℕ) (tables : Tables) : Type 0 where
  pub no_names : hash.IsEmpty tables.names
  pub names : many ≤ hash.spare tables.names
  pub no_edges : bag.IsEmpty tables.edges
  pub edges : many_edges ≤ bag.spare tables.edges
  pub no_pairs : tables.pairs.items ≡ []
  pub pairs : many_edges ≤ vec_capacity tables.pairs
