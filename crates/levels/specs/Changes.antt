-- What a change leaves of a level: some clusters go out and others come in, and names get the numbers of these.
use Rattle.std.specs.Prelude.{◌≡◌, ◌⊎◌, ℕ, true, List, slice_get, slice_index, Contains, Some, None}
use Rattle.std.specs.List.{AllPairs}
use Rattle.std.specs.FinMap as finmap
use Rattle.graphs.specs.Closures.{Closure, is_member}
use Rattle.cluster.specs.Clusters.{Cluster, AreApart}
use Rattle.record.specs.Records.{IsRecord}
pub use Rattle.cluster_store.specs.Tops.{AreAt, Replaces}
use Rattle.levels.specs.Views.{View, Numbers, IsClusterOf}

-- one of the clusters has the name
abbrev pub IsNamed : List Cluster → ℕ → Type 0
IsNamed clusters id = (c : Cluster) × Contains clusters c × Contains c.names id

-- these names have the number, and the others what they had
pub record PointsOne (number : ℕ) (names : List ℕ) (old new : Numbers) : Type 0 where
  pub pointed : (id : ℕ) → Contains names id → finmap.get new id ≡ Some number
  pub others : (id : ℕ) → (Contains names id → ⊥) → finmap.get new id ≡ finmap.get old id

-- these names have no number, and the others what they had
pub record Loses (gone : List ℕ) (old new : Numbers) : Type 0 where
  pub lost : (id : ℕ) → Contains gone id → finmap.get new id ≡ None
  pub others : (id : ℕ) → (Contains gone id → ⊥) → finmap.get new id ≡ finmap.get old id

-- The names of clusters have the numbers of these, some names have none, and all others what they had.
pub record Points (made : List ℕ) (news : List Cluster) (gone : List ℕ) (old new : Numbers) : Type 0 where
  pub pointed : (i id : ℕ) (c : Cluster) → slice_get news i ≡ Some c → Contains c.names id → finmap.get new id ≡ Some (slice_index made i)
  pub lost : (id : ℕ) → Contains gone id → finmap.get new id ≡ None
  pub others : (id : ℕ) → (IsNamed news id → ⊥) → (Contains gone id → ⊥) → finmap.get new id ≡ finmap.get old id

-- The clusters that come in have the names of those that go out, but for some that are gone, and names that are new; no two have a name in
-- common.
pub record Covers (most : ℕ) (olds news : List Cluster) (gone : List ℕ) (numbers : Numbers) : Type 0 where
  pub whole : (c : Cluster) → Contains news c → IsRecord most c
  pub apart : AllPairs AreApart news
  pub from : (id : ℕ) → IsNamed news id → IsNamed olds id ⊎ (finmap.get numbers id ≡ None)
  pub kept : (id : ℕ) → IsNamed olds id → IsNamed news id ⊎ Contains gone id
  pub lose : (id : ℕ) → Contains gone id → IsNamed olds id × (IsNamed news id → ⊥)

-- A whole change of a level.
pub record Rebuilds (most : ℕ) (outs made : List ℕ) (olds news : List Cluster) (gone : List ℕ) (old new : View) : Type 0 where
  pub taken : AreAt old.at outs olds
  pub exchanges : Replaces outs made news old.at new.at
  pub points : Points made news gone old.numbers new.numbers
  pub covers : Covers most olds news gone old.numbers

-- The same, told by the graphs: the clusters that went out were the graph's, those that came in are, names that are gone are in no cluster, and
-- of all other names all is as it was.
pub record IsRebuilt (olds news : List Cluster) (gone : List ℕ) (old new : Closure) : Type 0 where
  pub was : (c : Cluster) (id : ℕ) → Contains olds c → Contains c.names id → IsClusterOf old id c × (is_member old id ≡ true)
  pub now : (c : Cluster) (id : ℕ) → Contains news c → Contains c.names id → IsClusterOf new id c × (is_member new id ≡ true)
  pub lost : (id : ℕ) → Contains gone id → finmap.get new id ≡ None
  pub others : (id : ℕ) → (IsNamed olds id → ⊥) → (IsNamed news id → ⊥) → finmap.get new id ≡ finmap.get old id
  pub kept : (id : ℕ) → IsNamed olds id → IsNamed news id ⊎ Contains gone id
  pub lose : (id : ℕ) → Contains gone id → IsNamed olds id × (IsNamed news id → ⊥)
