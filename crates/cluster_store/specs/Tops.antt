-- What is seen of each level of a store, and what a change of the top level leaves of it.
use Rattle.std.specs.Prelude.{◌≡◌, ◌⊎◌, ℕ, Bool, true, false, cond, List, ◌∷◌, ◌++◌, length, Contains, slice_get, slice_index, Option, None, Some, option_map, option_to_list, IsSome}
use Rattle.std.specs.FinMap as finmap
use Rattle.lists.specs.Distinct.{AreDistinct}
use Rattle.graphs.specs.declared.names.Level.{Level}
use Rattle.graphs.specs.declared.names.Level.TheVariants.{Main, Top}
use Rattle.chunk_index.specs.declared.entry.Tag.{Tag}
use Rattle.chunk_index.specs.declared.entry.Tag.TheVariants.{Both, MainOnly, TopOnly}
use Rattle.chunk_index.specs.Items.{is_in}
use Rattle.cluster.specs.Clusters.{Cluster}
use Rattle.cluster_store.specs.Stores.{Stored, Numbered}

-- the cluster under a number, and its tag
abbrev pub stored_at : Numbered → ℕ → Option Cluster
stored_at clusters number = option_map (λ (s : Stored). s.cluster) (finmap.get clusters number)

abbrev pub tag_at : Numbered → ℕ → Option Tag
tag_at clusters number = option_map (λ (s : Stored). s.tag) (finmap.get clusters number)

-- what is stored, where it stands in the level
abbrev pub seen_in : Level → Option Stored → Option Cluster
seen_in level None = None
seen_in level (Some s) = cond (is_in level s.tag) (Some s.cluster) None

-- the cluster under a number, where it stands in the level
abbrev pub seen_at : Level → Numbered → ℕ → Option Cluster
seen_at level clusters number = seen_in level (finmap.get clusters number)

-- the number has a cluster of the top level
abbrev pub StandsInTop : Numbered → ℕ → Type 0
StandsInTop clusters number = IsSome (seen_at Top clusters number)

-- everything that is stored has the tag
abbrev pub AllHave : Tag → Numbered → Type 0
AllHave tag clusters = (number : ℕ) (s : Stored) → finmap.get clusters number ≡ Some s → s.tag ≡ tag

-- the tag of what changes in the top level alone
abbrev pub top_tag : Bool → Tag
top_tag staged = cond staged TopOnly Both

-- what stays of a cluster that goes out of the top level: where there is a staging and it stands in both, it stays in main
abbrev pub left_of : Bool → Tag → Option Tag
left_of staged Both = cond staged (Some MainOnly) None
left_of staged MainOnly = Some MainOnly
left_of staged TopOnly = None

-- main keeps the cluster of the number where it goes out of the top level
abbrev pub MainKeeps : Bool → Numbered → ℕ → Type 0
MainKeeps staged clusters number = (staged ≡ true) × (tag_at clusters number ≡ Some Both)

-- these clusters stand under these numbers, one for one
pub record AreAt (at : ℕ → Option Cluster) (list : List ℕ) (found : List Cluster) : Type 0 where
  pub count : length list ≡ length found
  pub stand : (i : ℕ) (c : Cluster) → slice_get found i ≡ Some c → at (slice_index list i) ≡ Some c

-- The clusters of some numbers go out, and others stand under these numbers or under such as were free. All else stays.
pub record Replaces (outs made : List ℕ) (news : List Cluster) (old new : ℕ → Option Cluster) : Type 0 where
  pub once : AreDistinct made
  pub stand : AreAt new made news
  pub room : (n : ℕ) → Contains made n → Contains outs n ⊎ (old n ≡ None)
  pub cleared : (n : ℕ) → Contains outs n → (Contains made n → ⊥) → new n ≡ None
  pub elsewhere : (n : ℕ) → (Contains outs n → ⊥) → (Contains made n → ⊥) → new n ≡ old n

-- Clusters of the top level of a store are exchanged. Where there is a staging, what is seen of main stays, and those that come in aren't
-- of it; where there is none, all clusters stand in both.
pub record Exchanged (staged : Bool) (outs made : List ℕ) (news : List Cluster) (old new : Numbered) : Type 0 where
  pub top : Replaces outs made news (seen_at Top old) (seen_at Top new)
  pub main : staged ≡ true → (n : ℕ) → seen_at Main new n ≡ seen_at Main old n
  pub fresh : staged ≡ true → (n : ℕ) → Contains made n → seen_at Main new n ≡ None
  pub both : staged ≡ false → AllHave Both new

-- The clusters of these numbers may go out of the top level: each is told once and stands there. Without a staging all that is stored
-- stands in both levels.
pub record MayLeave (staged : Bool) (outs : List ℕ) (clusters : Numbered) : Type 0 where
  pub once : AreDistinct outs
  pub there : (n : ℕ) → Contains outs n → StandsInTop clusters n
  pub both : staged ≡ false → AllHave Both clusters

-- Clusters go out of the top level, and others come in: the rest of them under numbers that were free, one for one, and the last, where
-- there is one, under the number of the first that goes out, if main doesn't keep that one.
pub record TopChanges (staged : Bool) (outs made : List ℕ) (number : Option ℕ) (rest : List Cluster) (last : Option Cluster) (old new : Numbered) : Type 0 where
  pub exchanged : Exchanged staged outs (made ++ option_to_list number) (rest ++ option_to_list last) old new
  pub count : length made ≡ length rest
  pub free : (n : ℕ) → Contains made n → finmap.get old n ≡ None
  pub under : (first : ℕ) (others : List ℕ) → outs ≡ first ∷ others → IsSome last → (MainKeeps staged old first → ⊥) → number ≡ Some first
