-- Transactions by places, with lists of places for each.
use Rattle.std.specs.Prelude.{◌≡◌, ◌⊎◌, ◌↔◌, ℕ, ℤ, pos, ◌<◌, List, [], map, length, slice_index_or, Contains, Vec}
use Rattle.std.specs.declared.alloc.Global.{Global}
use Rattle.std.specs.List.Sorted.{IsPermutation}
use Rattle.fee_rate.specs.Limits.{IsSize}
use Rattle.graphs.specs.Certificates.{Txs, rate_in}
use Rattle.graph_model.specs.Trims.{GoesFirst}
use Rattle.trimming.specs.declared.net.Net.{Net}

-- the list of a place
abbrev pub list_at : List (Vec ℕ Global) → ℕ → List ℕ
list_at lists place = slice_index_or (map (λ list. list.items) lists) place []

-- the transaction at a place, its name and its size
abbrev pub tx_at : Txs → ℕ → ℕ × ℤ × ℕ
tx_at txs place = slice_index_or txs place (0, pos 0, 0)

abbrev pub name_at : Txs → ℕ → ℕ
name_at txs place = (tx_at txs place).0

abbrev pub size_at : Txs → ℕ → ℕ
size_at txs place = (tx_at txs place).2

-- The list of one place has one more entry, those of the others are the same.
pub record HasPut (old new : List (Vec ℕ Global)) (at place : ℕ) : Type 0 where
  pub sized : length new ≡ length old
  pub exact : (i x : ℕ) → Contains (list_at new i) x ↔ (Contains (list_at old i) x ⊎ ((i ≡ at) × (x ≡ place)))

-- a is a parent of b
abbrev pub IsParent : Net → ℕ → ℕ → Type 0
IsParent net a b = Contains (list_at net.parents.items b) a

-- The lists of the children tell the same as those of the parents, both are of places that there are, and each transaction has a size.
pub record IsNet (net : Net) : Type 0 where
  pub parents_sized : length net.parents.items ≡ length net.txs.items
  pub children_sized : length net.children.items ≡ length net.txs.items
  pub children : (a b : ℕ) → Contains (list_at net.children.items a) b ↔ IsParent net a b
  pub within : (a b : ℕ) → IsParent net a b → (a < length net.txs.items) × (b < length net.txs.items)
  pub sizes : (place : ℕ) → place < length net.txs.items → IsSize (size_at net.txs.items place)

-- The net of transactions and pairs: the transactions in the order in which candidates are looked at, and the pairs between their places.
pub record IsNetOf (txs : Txs) (pairs : List (ℕ × ℕ)) (net : Net) : Type 0 where
  pub net_is : IsNet net
  pub same : IsPermutation txs net.txs.items
  pub order : (i j : ℕ) → i < j → j < length net.txs.items → GoesFirst (rate_in txs) (name_at net.txs.items i) (name_at net.txs.items j)
  pub pairs_are : (a b : ℕ) → IsParent net a b → Contains {X = ℕ × ℕ} pairs (name_at net.txs.items a, name_at net.txs.items b)
  pub pairs_all : (x y : ℕ) → Contains {X = ℕ × ℕ} pairs (x, y)
      → (a b : ℕ) × IsParent net a b × (name_at net.txs.items a ≡ x) × (name_at net.txs.items b ≡ y)
