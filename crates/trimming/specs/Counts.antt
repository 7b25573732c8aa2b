-- How many parents of each place are kept, and which names aren't.
use Rattle.std.specs.Prelude.{◌≡◌, ℕ, ◌<◌, ◌≤◌, Bool, true, false, List, length, slice_index_or}
use Rattle.graphs.specs.Certificates.{Txs}
use Rattle.links.specs.Walkers.{mark_at}
use Rattle.trimming.specs.Nets.{list_at, name_at, IsParent}
use Rattle.trimming.specs.declared.net.Net.{Net}

-- all parents of a place are kept
abbrev pub HasAllKept : Net → List Bool → ℕ → Type 0
HasAllKept net kept place = (a : ℕ) → IsParent net a place → mark_at kept a ≡ true

-- For each place so many of its parents, from the first on, are kept.
pub record ArePassed (net : Net) (kept : List Bool) (passed : List ℕ) : Type 0 where
  pub sized : length passed ≡ length net.txs.items
  pub few : (place : ℕ) → place < length net.txs.items → slice_index_or passed place 0 ≤ length (list_at net.parents.items place)
  pub are : (place k : ℕ) → place < length net.txs.items → k < slice_index_or passed place 0
      → mark_at kept (slice_index_or (list_at net.parents.items place) k 0) ≡ true

-- the name of a place that isn't kept
abbrev pub IsUnkept : Txs → List Bool → ℕ → Type 0
IsUnkept txs kept id = (place : ℕ) × (place < length txs) × (mark_at kept place ≡ false) × (name_at txs place ≡ id)
