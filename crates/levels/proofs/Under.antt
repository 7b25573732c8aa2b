-- The cluster of a name that a level has stands under the name's number, and is what is stored there.
use Rattle.std.proofs.Common.{◌≡◌, ℕ, ◌*◌, true, Contains, Some, is_some, IsSome, sym, ap, ◌∙◌}
use Rattle.std.proofs.lemmas.Option.{same_Some}
use Rattle.std.specs.FinMap as finmap
use Rattle.graphs.specs.declared.names.Level.{Level}
use Rattle.graphs.specs.Closures.{is_member}
use Rattle.cluster.specs.Clusters.{Cluster}
use Rattle.levels.specs.Shelves.{Shelf, IsInOrder, numbers_at, seen_at, stored_at, view_of}
use Rattle.levels.specs.Views.{StandsAt, IsClusterOf, graph_of}
use Rattle.levels.proofs.Finds.{indexed_at}
use Rattle.levels.proofs.Found.{cluster_of}
use Rattle.levels.proofs.Graphs.{in_live, member-number, stands_in}
use Rattle.levels.proofs.Seen.{seen_is_stored}

pub live : (level : Level) (shelf : Shelf) (id number : ℕ) → finmap.get (numbers_at level shelf) id ≡ Some number
    → is_member (graph_of (view_of level shelf)) id ≡ true
live level shelf id number is = member-number (view_of level shelf) id ∙ ap is_some is

module _ (w : ℕ) (shelf : Shelf) (order : IsInOrder w shelf) (level : Level) (id number : ℕ)
    (is : finmap.get (numbers_at level shelf) id ≡ Some number) where
  stands : StandsAt (view_of level shelf) number id
  stands = (indexed_at w shelf order level).stands id number is

  kept : stored_at shelf.store.clusters number ≡ Some stands.cluster
  kept = seen_is_stored level shelf.store.clusters number stands.cluster stands.there

  pub is_stored : IsSome (stored_at shelf.store.clusters number)
  is_stored = ap is_some kept

  pub stored : (c : Cluster) × (stored_at shelf.store.clusters number ≡ Some c)
  stored = (stands.cluster, kept)

  -- what is stored there is seen
  pub seen_there : (c : Cluster) → stored_at shelf.store.clusters number ≡ Some c → seen_at level shelf.store.clusters number ≡ Some c
  seen_there c at = stands.there ∙ ap Some (same_Some stands.cluster c (sym kept ∙ at))

  pub held : (c : Cluster) → seen_at level shelf.store.clusters number ≡ Some c → Contains c.names id
  held c at = stands_in (64 * w) (view_of level shelf) number id c (indexed_at w shelf order level) is at

  pub its_cluster : (c : Cluster) → seen_at level shelf.store.clusters number ≡ Some c → IsClusterOf (graph_of (view_of level shelf)) id c
  its_cluster c at = cluster_of (64 * w) (view_of level shelf) (indexed_at w shelf order level) number c at id (held c at)

  -- the names of what is stored there are live
  pub name_live : (c : Cluster) → stored_at shelf.store.clusters number ≡ Some c → (q : ℕ) → Contains c.names q
      → is_member (graph_of (view_of level shelf)) q ≡ true
  name_live c at q here = in_live (64 * w) (view_of level shelf) (indexed_at w shelf order level) number q c (seen_there c at) here
