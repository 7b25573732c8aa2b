-- The clusters of a level without an order are its components that are over the limits.
use Rattle.std.proofs.Common.{◌≡◌, ℕ, ℤ, ◌*◌, List, [], ◌∷◌, ◌++◌, map, flat_map, Contains, Some, refl, sym, ap, ◌∙◌, subst}
use Rattle.std.specs.FinMap as finmap
use Rattle.lists.specs.Distinct.{AreDistinct}
use Rattle.lists.proofs.Entries.{Contains-map, map-Contains}
use Rattle.lists.proofs.Flats.{flat_once}
use Rattle.graphs.specs.Closures.{Closure, rate_of}
use Rattle.graphs.specs.declared.names.Level.{Level}
use Rattle.graph_model.specs.Limits.{AreOver, bounds_of}
use Rattle.cluster.specs.Clusters.{Cluster}
use Rattle.links.specs.Links.{Links}
use Rattle.links.specs.Kept.{names_of}
use Rattle.links.proofs.Closed.{rates_are}
use Rattle.record.specs.Kept.{unordered}
use Rattle.record.proofs.Listed.{above_of, above_to}
use Rattle.cluster_store.specs.Held.{cluster_in}
use Rattle.cluster_store.specs.Overs.{AreLacking}
use Rattle.levels.specs.Oversize.{AreOfOneComponent}
use Rattle.levels.specs.Overs.{AreLent, AreOvers, IsLinksOf, LendsOvers}
use Rattle.levels.specs.Shelves.{Shelf, IsInOrder, seen_at, view_of}
use Rattle.levels.specs.Views.{IsClusterOf, IsIndexed, graph_of}
use Rattle.levels.proofs.Finds.{indexed_at}
use Rattle.levels.proofs.Found.{cluster_of}
use Rattle.levels.proofs.Graphs.{in_live, one_number, rate_in_cluster}
use Rattle.levels.proofs.Oversizing.{lacks_with, over_at}
use Rattle.levels.proofs.Shelved.{seen_of}

-- ---- names of lists of links and of clusters

names_told : (list : List Links) → flat_map (λ l. names_of l.txs) list ≡ flat_map (λ (c : Cluster). c.names) (map unordered list)
names_told [] = refl
names_told (l ∷ ls) = ap (λ (ids : List ℕ). names_of l.txs ++ ids) (names_told ls)

names_at : (at : ℕ → Cluster) (ns : List ℕ) → flat_map (λ (c : Cluster). c.names) (map at ns) ≡ flat_map (λ n. (at n).names) ns
names_at at [] = refl
names_at at (n ∷ ns) = ap (λ (ids : List ℕ). (at n).names ++ ids) (names_at at ns)

-- ---- what is lent

module _ (w : ℕ) (level : Level) (shelf : Shelf) (order : IsInOrder w shelf) (coming : List Cluster)
    (lacking : AreLacking level shelf.store.clusters coming) (list : List Links) (lent : AreLent coming list) where
  abbrev known : Closure
  known = graph_of (view_of level shelf)

  indexed : IsIndexed (64 * w) (view_of level shelf)
  indexed = indexed_at w shelf order level

  abbrev cluster_at : ℕ → Cluster
  cluster_at n = cluster_in (finmap.get shelf.store.clusters n)

  same : map unordered list ≡ map cluster_at lacking.numbers
  same = lent.told ∙ lacking.told

  -- a number's cluster stands in the level without an order
  stands : (n : ℕ) → Contains lacking.numbers n → (seen_at level shelf.store.clusters n ≡ Some (cluster_at n)) × ((cluster_at n).parts ≡ [])
  stands n here =
      let found = (lacking.exact n).0 here in
      let at = seen_of level (finmap.get shelf.store.clusters n) found.0 found.1 in
      let is : cluster_at n ≡ found.0 = ap cluster_in at.1 ∙ at.2 in (found.1 ∙ ap (λ (c : Cluster). Some c) (sym is), ap (λ (c : Cluster). c.parts) is ∙ found.2)

  -- links are those of a number's cluster
  told : (l : Links) → Contains list l → (n : ℕ) × (seen_at level shelf.store.clusters n ≡ Some (unordered l))
  told l here =
      let found = map-Contains cluster_at lacking.numbers (unordered l) (subst (λ (cs : List Cluster). Contains cs (unordered l)) same
      (Contains-map unordered list l here)) in
      (found.0, (stands found.0 found.1).0 ∙ ap (λ (c : Cluster). Some c) found.2)

  is_links : (l : Links) → Contains list l → IsLinksOf known l
  is_links l here =
      let at = told l here in
      let are = lent.links l here in
      let of : (id : ℕ) → Contains (names_of l.txs) id → IsClusterOf known id (unordered l) =
      λ id. cluster_of (64 * w) (view_of level shelf) indexed at.0 (unordered l) at.1 id in
      record {
        whole = are;
        component = record {
          members = λ id there. in_live (64 * w) (view_of level shelf) indexed at.0 id (unordered l) at.1 there;
          linked = λ a b a_in b_in. (of a a_in).linked b b_in;
          alone = λ a b a_in linked. (of a a_in).alone b linked;
        };
        rates = λ id fee size there.
            rate_in_cluster (64 * w) (view_of level shelf) indexed at.0 id (unordered l) at.1
            (Contains-map (λ (tx : ℕ × ℤ × ℕ). tx.0) l.txs (id, fee, size) there)
            ∙ rates_are l are id fee size there;
        ancestors = λ a d there. (
          λ up. (of d there).above a d there ∙ above_to l are (unordered l) refl d there a up,
          λ up. above_of l are (unordered l) refl d there a (sym ((of d there).above a d there) ∙ up),
        );
      }

  each_over : (l : Links) → Contains list l → AreOver (bounds_of shelf.limits) (λ id. (rate_of known id).size) (names_of l.txs)
  each_over l here = let at = told l here in over_at w level shelf order at.0 (unordered l) at.1 refl

  each_once : AreDistinct (flat_map (λ l. names_of l.txs) list)
  each_once =
      subst AreDistinct (sym (names_told list ∙ ap (λ (cs : List Cluster). flat_map (λ (c : Cluster). c.names) cs) same ∙ names_at cluster_at lacking.numbers))
      (flat_once (λ n. (cluster_at n).names) lacking.numbers lacking.once
      (λ n here. (indexed.whole n (cluster_at n) (stands n here).0).connected.once)
      (λ n m id n_in m_in here there. one_number (64 * w) (view_of level shelf) indexed n m id (cluster_at n) (cluster_at m) (stands n n_in).0
      (stands m m_in).0 here there))

  all_there : (ids : List ℕ) → AreOfOneComponent known ids → AreOver (bounds_of shelf.limits) (λ id. (rate_of known id).size) ids
      → (l : Links) × Contains list l × ((id : ℕ) → Contains ids id → Contains (names_of l.txs) id)
  all_there ids one over =
      let found = lacks_with w level shelf order ids one over in
      let number = (lacking.exact found.0).1 (found.1, found.2, found.3) in
      let at = seen_of level (finmap.get shelf.store.clusters found.0) found.1 found.2 in
      let is : cluster_at found.0 ≡ found.1 = ap cluster_in at.1 ∙ at.2 in
      let l = map-Contains unordered list (cluster_at found.0) (subst (λ (cs : List Cluster). Contains cs (cluster_at found.0)) (sym same)
      (Contains-map cluster_at lacking.numbers found.0 number)) in
      (l.0, l.1, λ id here. subst (λ (c : Cluster). Contains c.names id) (sym (l.2 ∙ is)) (found.4 id here))

  are_overs : AreOvers shelf.limits known list
  are_overs = record { links = is_links; over = each_over; once = each_once; all = all_there }

pub lends_overs : (w : ℕ) (level : Level) (shelf : Shelf) → IsInOrder w shelf → (coming : List Cluster) → AreLacking level shelf.store.clusters coming
    → LendsOvers shelf.limits (graph_of (view_of level shelf)) coming
lends_overs w level shelf order coming lacking list lent = are_overs w level shelf order coming lacking list lent
