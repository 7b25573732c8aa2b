-- The parts of a level with their clusters.
use Rattle.std.proofs.Common.{◌≡◌, ℕ, ◌*◌, map, Contains, sym, ap, ◌∙◌, subst}
use Rattle.std.specs.FinMap as finmap
use Rattle.std.proofs.lemmas.Simd.{map-map}
use Rattle.lists.proofs.Entries.{map-Contains, Contains-map}
use Rattle.graphs.specs.declared.names.Level.{Level}
use Rattle.cluster.specs.Clusters.{Cluster}
use Rattle.cluster_store.specs.Held.{Held, cluster_in, held_at, held_in}
use Rattle.cluster_store.specs.Stores.{Shown, places_in, shown_at}
use Rattle.levels.specs.Held.{IsHeldIn}
use Rattle.levels.specs.Shelves.{Shelf, IsInOrder, one_of, view_of}
use Rattle.levels.proofs.Clustered.{its}
use Rattle.levels.proofs.Finds.{indexed_at}
use Rattle.levels.proofs.Graphs.{rate_in_cluster}
use Rattle.levels.proofs.Places.{lists_covers}
use Rattle.levels.proofs.Shelved.{seen_of}

module _ (w : ℕ) (shelf : Shelf) (order : IsInOrder w shelf) (level : Level) where
  pub held_parts : map (λ (h : Held). h.part) (held_in level shelf.store) ≡ (one_of level shelf).parts
  held_parts =
      map-map (λ (h : Held). h.part) (held_at shelf.store.clusters) (places_in level shelf.store)
      ∙ sym (map-map (λ (s : Shown). s.part) (shown_at shelf.store.clusters) (places_in level shelf.store))

  pub is_held : (h : Held) → Contains (held_in level shelf.store) h → IsHeldIn (one_of level shelf) h
  is_held h here =
      let found = map-Contains (held_at shelf.store.clusters) (places_in level shelf.store) h here in
      let number = found.0.0 in
      let shown = shown_at shelf.store.clusters found.0 in
      let of = its w shelf order level shown (Contains-map (shown_at shelf.store.clusters) (places_in level shelf.store) found.0 found.1) in
      let kept = seen_of level (finmap.get shelf.store.clusters number) of.cluster of.there in
      let same : cluster_in (finmap.get shelf.store.clusters number) ≡ of.cluster = ap cluster_in kept.1 ∙ kept.2 in
      let is : IsHeldIn (one_of level shelf) (record { part = shown.part; cluster = of.cluster }) = record {
        names = of.names;
        rates = λ id there. rate_in_cluster (64 * w) (view_of level shelf) (indexed_at w shelf order level) number id of.cluster of.there there;
        covers = λ id covers there listed. lists_covers w shelf order level id number of.cluster of.there there covers listed;
      } in
      subst (IsHeldIn (one_of level shelf)) found.2
      (subst (λ (c : Cluster). IsHeldIn (one_of level shelf) (record { part = shown.part; cluster = c })) (sym same) is)
