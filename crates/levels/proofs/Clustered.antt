-- Two parts of a level have one number exactly where they are of one cluster, and no name of a level is below a bound of the store's sizes.
use Rattle.std.proofs.Common.{◌≡◌, ◌≢◌, ℕ, ◌*◌, ◌≤◌, true, List, [], ◌∷◌, Contains, Some, refl, sym, ap, ◌∙◌, subst}
use Rattle.std.specs.FinMap as finmap
use Rattle.std.proofs.lemmas.Option.{same_Some}
use Rattle.lists.proofs.Entries.{Contains-head, Contains-map}
use Rattle.fee_rate.specs.declared.rates.FeeRate.{FeeRate}
use Rattle.graphs.specs.declared.names.Level.{Level}
use Rattle.graphs.specs.Closures.{Closure, is_member, rate_of}
use Rattle.cluster.specs.Clusters.{Cluster}
use Rattle.cluster_store.specs.Stores.{Shown, IsLeast, shown_in}
use Rattle.levels.specs.Shelves.{Shelf, IsInOrder, one_of, seen_at, view_of}
use Rattle.levels.specs.Oversize.{IsOversized}
use Rattle.levels.specs.Views.{IsIndexed, AreOfOneCluster, HaveClusterNumbers}
use Rattle.levels.proofs.Finds.{indexed_at}
use Rattle.levels.proofs.Found.{cluster_of}
use Rattle.levels.proofs.Graphs.{live_in, one_number, rate_in_cluster}
use Rattle.levels.proofs.Placing.{in_cluster, shown_placed}
use Rattle.levels.proofs.Shelved.{seen_of, stands_seen}
use Rattle.levels.proofs.Summing.{part_filled}

some_name : (ids : List ℕ) → ids ≢ [] → (id : ℕ) × Contains ids id
some_name [] filled = absurd (filled refl)
some_name (id ∷ ids) filled = (id, Contains-head id ids)

module _ (w : ℕ) (shelf : Shelf) (order : IsInOrder w shelf) (level : Level) where
  abbrev known : Closure
  known = (one_of level shelf).graph

  indexed : IsIndexed (64 * w) (view_of level shelf)
  indexed = indexed_at w shelf order level

  -- the cluster of a part that is shown is seen under its number, and has its names
  pub record IsOf (s : Shown) : Type 0 where
    pub cluster : Cluster
    pub there : seen_at level shelf.store.clusters s.number ≡ Some cluster
    pub names : (id : ℕ) → Contains s.part.ids id → Contains cluster.names id

  pub its : (s : Shown) → Contains (shown_in level shelf.store) s → IsOf s
  its s here =
      let at = shown_placed (64 * w) level shelf.store order.store s here in
      record {
        cluster = at.stands.0;
        there = ap (seen_at level shelf.store.clusters) (sym at.number) ∙ (stands_seen level shelf.store.clusters at.place.0 at.stands.0).0 at.stands.1;
        names = in_cluster (64 * w) level shelf.store order.store at.place s.part at.stands;
      }

  module _ (in_limits : IsOversized shelf.limits known → ⊥) where
    its_name : (s : Shown) → Contains (shown_in level shelf.store) s → (id : ℕ) × Contains s.part.ids id
    its_name s here = some_name s.part.ids (part_filled w shelf order level in_limits s.part (Contains-map (λ (t : Shown). t.part) (shown_in level shelf.store) s here))

    of_one : (s t : Shown) → Contains (shown_in level shelf.store) s → Contains (shown_in level shelf.store) t → s.number ≡ t.number
        → AreOfOneCluster known s.part t.part
    of_one s t first second same =
        let x = its s first in
        let y = its t second in
        let a = its_name s first in
        let b = its_name t second in
        let of = cluster_of (64 * w) (view_of level shelf) indexed s.number x.cluster x.there a.0 (x.names a.0 a.1) in
        let is : Some x.cluster ≡ Some y.cluster = sym x.there ∙ ap (seen_at level shelf.store.clusters) same ∙ y.there in
        (a.0, b.0, a.1, b.1, of.linked b.0 (subst (λ (c : Cluster). Contains c.names b.0) (sym (same_Some x.cluster y.cluster is)) (y.names b.0 b.1)))

    of_number : (s t : Shown) → Contains (shown_in level shelf.store) s → Contains (shown_in level shelf.store) t → AreOfOneCluster known s.part t.part
        → s.number ≡ t.number
    of_number s t first second (a, b, here, there, linked) =
        let x = its s first in
        let y = its t second in
        let of = cluster_of (64 * w) (view_of level shelf) indexed s.number x.cluster x.there a (x.names a here) in
        one_number (64 * w) (view_of level shelf) indexed s.number t.number b x.cluster y.cluster x.there y.there (of.alone b linked) (y.names b there)

    pub cluster_numbers : HaveClusterNumbers known (shown_in level shelf.store)
    cluster_numbers s t first second = (of_one s t first second, of_number s t first second)

  pub sizes_bounded : (least : ℕ) → IsLeast shelf.store.clusters least → (id : ℕ) → is_member known id ≡ true → least ≤ (rate_of known id).size
  sizes_bounded least is id live =
      let at = live_in (64 * w) (view_of level shelf) indexed id live in
      let kept = seen_of level (finmap.get shelf.store.clusters at.0) at.2.cluster at.2.there in
      subst (λ (rate : FeeRate). least ≤ rate.size) (sym (rate_in_cluster (64 * w) (view_of level shelf) indexed at.0 id at.2.cluster at.2.there at.2.here))
      (subst (λ (c : Cluster). least ≤ (rate_of c.graph id).size) kept.2
      (is at.0 kept.0 kept.1 id (subst (λ (c : Cluster). Contains c.names id) (sym kept.2) at.2.here)))
