-- The names of the clusters of a level are its members, and the clusters its components.
use Rattle.std.proofs.Common.{◌≡◌, ◌↔◌, ℕ, ◌*◌, true, List, [], ◌∷◌, ◌++◌, flat_map, Contains, Option, None, Some, refl, sym, ap, ◌∙◌, subst}
use Rattle.std.specs.Prelude.{option_to_list}
use Rattle.lists.specs.Distinct.{AreDistinct}
use Rattle.lists.proofs.Entries.{Contains-one, none_in_empty}
use Rattle.lists.proofs.Flats.{flat_has, flat_of, flat_once}
use Rattle.graphs.specs.Closures.{is_member}
use Rattle.graphs.specs.declared.names.Level.{Level}
use Rattle.cluster.specs.Clusters.{Cluster}
use Rattle.cluster_store.specs.Names.{AreClusters, AreNames, names_seen}
use Rattle.levels.specs.Shelves.{Shelf, IsInOrder, seen_at, view_of}
use Rattle.levels.specs.Views.{AreItsClusters, IsIndexed, graph_of}
use Rattle.levels.proofs.Finds.{indexed_at}
use Rattle.levels.proofs.Found.{cluster_of}
use Rattle.levels.proofs.Graphs.{in_live, live_in, one_number}

-- a name is of a cluster that is seen
pub of_seen : (o : Option Cluster) (id : ℕ) → Contains (names_seen o) id → (c : Cluster) × (o ≡ Some c) × Contains c.names id
of_seen None id here = absurd (none_in_empty id here)
of_seen (Some c) id here = (c, refl, here)

module _ (w : ℕ) (level : Level) (shelf : Shelf) (order : IsInOrder w shelf) (list : List ℕ) (names : AreNames level shelf.store.clusters list) where
  indexed : IsIndexed (64 * w) (view_of level shelf)
  indexed = indexed_at w shelf order level

  abbrev names_at : ℕ → List ℕ
  names_at n = names_seen (seen_at level shelf.store.clusters n)

  pub names_are : (id : ℕ) → Contains list id ↔ (is_member (graph_of (view_of level shelf)) id ≡ true)
  names_are id = (
    λ here.
        let at = flat_of names_at names.numbers id (subst (λ (ids : List ℕ). Contains ids id) names.told here) in
        let seen = of_seen (seen_at level shelf.store.clusters at.0) id at.2 in
        in_live (64 * w) (view_of level shelf) indexed at.0 id seen.0 seen.1 seen.2,
    λ member.
        let at = live_in (64 * w) (view_of level shelf) indexed id member in
        subst (λ (ids : List ℕ). Contains ids id) (sym names.told)
        (flat_has names_at names.numbers at.0 id (names.all at.0 at.2.cluster at.2.there)
        (subst (λ (o : Option Cluster). Contains (names_seen o) id) (sym at.2.there) at.2.here)),
  )

  each_once : (n : ℕ) (o : Option Cluster) → seen_at level shelf.store.clusters n ≡ o → AreDistinct (names_seen o)
  each_once n None is = tt
  each_once n (Some c) is = (indexed.whole n c is).connected.once

  pub names_once : AreDistinct list
  names_once =
      subst AreDistinct (sym names.told)
      (flat_once names_at names.numbers names.once (λ n _. each_once n (seen_at level shelf.store.clusters n) refl)
      (λ n m id _ _ here there.
      let one = of_seen (seen_at level shelf.store.clusters n) id here in
      let two = of_seen (seen_at level shelf.store.clusters m) id there in
      one_number (64 * w) (view_of level shelf) indexed n m id one.0 two.0 one.1 two.1 one.2 two.2))

-- ---- the clusters are its components

-- what is listed of an option is what it has
pub in_option : (o : Option Cluster) (c : Cluster) → Contains (option_to_list o) c → o ≡ Some c
in_option None c here = absurd (none_in_empty c here)
in_option (Some d) c here = ap (λ (x : Cluster). Some x) (Contains-one d c here)

option_names : (o : Option Cluster) (rest : List Cluster)
    → flat_map (λ (c : Cluster). c.names) (option_to_list o ++ rest) ≡ names_seen o ++ flat_map (λ (c : Cluster). c.names) rest
option_names None rest = refl
option_names (Some c) rest = refl

pub all_names : (at : ℕ → Option Cluster) (ns : List ℕ)
    → flat_map (λ (c : Cluster). c.names) (flat_map (λ n. option_to_list (at n)) ns) ≡ flat_map (λ n. names_seen (at n)) ns
all_names at [] = refl
all_names at (n ∷ ns) =
    option_names (at n) (flat_map (λ m. option_to_list (at m)) ns) ∙ ap (λ (ids : List ℕ). names_seen (at n) ++ ids) (all_names at ns)

pub its_clusters : (w : ℕ) (level : Level) (shelf : Shelf) → IsInOrder w shelf → (list : List Cluster) → AreClusters level shelf.store.clusters list
    → AreItsClusters (graph_of (view_of level shelf)) list
its_clusters w level shelf order list clusters =
    let indexed = indexed_at w shelf order level in
    let names : AreNames level shelf.store.clusters (flat_map (λ (c : Cluster). c.names) list) = record {
      numbers = clusters.numbers;
      once = clusters.once;
      all = clusters.all;
      told = ap (flat_map (λ (c : Cluster). c.names)) clusters.told ∙ all_names (λ n. seen_at level shelf.store.clusters n) clusters.numbers;
    } in
    record {
      each = λ c here id there.
          let found = flat_of (λ n. option_to_list (seen_at level shelf.store.clusters n)) clusters.numbers c
          (subst (λ (cs : List Cluster). Contains cs c) clusters.told here) in
          cluster_of (64 * w) (view_of level shelf) indexed found.0 c (in_option (seen_at level shelf.store.clusters found.0) c found.2) id there;
      once = names_once w level shelf order (flat_map (λ (c : Cluster). c.names) list) names;
      all = λ id member.
          let found = flat_of (λ (c : Cluster). c.names) list id
          ((names_are w level shelf order (flat_map (λ (c : Cluster). c.names) list) names id).1 member) in
          (found.0, found.1, found.2);
    }
