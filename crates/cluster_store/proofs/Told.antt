-- The parts of a level are told by the clusters that stand in it.
use Rattle.std.proofs.Common.{◌≡◌, ℕ, ◌<◌, Bool, true, false, List, [], ◌∷◌, map, length, Contains, Option, Some, None, refl, sym, ap, ap₂, ◌∙◌, subst}
use Rattle.std.specs.declared.cmp.Ordering.TheVariants.{Less}
use Rattle.std.specs.List.{AllByRecursion, slice_index_or}
use Rattle.std.specs.FinMap as finmap
use Rattle.lists.proofs.Entries.{Contains-head, Contains-later, Contains-filter, filter-Contains, map_along}
use Rattle.graphs.specs.Certificates.{Part}
use Rattle.graphs.specs.declared.names.Level.{Level}
use Rattle.chunk_index.specs.declared.key.Key.{Key}
use Rattle.chunk_index.specs.Items.{is_in}
use Rattle.chunk_index.specs.KeyOrder.{key_cmp}
use Rattle.chunk_index.specs.Keys.{IsInOrder}
use Rattle.cluster.specs.Clusters.{Cluster}
use Rattle.cluster_store.specs.Keys.{key_part}
use Rattle.cluster_store.specs.Laws.{HaveSameClusters, PartsAreToldByClusters}
use Rattle.cluster_store.specs.Stores.{Stored, Store, Shown, IsOrdered, no_part, parts_in, key_at, passes, places_by, places_in, shown_at, shown_in}
use Rattle.chunk_index.proofs.Lists.{filter_in_order}
use Rattle.cluster_store.proofs.Unique.{ordered_once}

false_true : false ≡ true → ⊥
false_true e = cc

-- a list that stands in order by one key does so by another that is the same on its entries
module _ {A : Type 0} (k l : A → Key) where
  same_behind : (x : A) (ys : List A) → k x ≡ l x → ((y : A) → Contains ys y → k y ≡ l y) → AllByRecursion (λ y. key_cmp (k x) (k y) ≡ Less) ys
      → AllByRecursion (λ y. key_cmp (l x) (l y) ≡ Less) ys
  same_behind x [] first same less = tt
  same_behind x (y ∷ ys) first same less = (
    sym (ap₂ key_cmp first (same y (Contains-head y ys))) ∙ less.0,
    same_behind x ys first (λ z here. same z (Contains-later y z ys here)) less.1,
  )

  same_order : (xs : List A) → ((x : A) → Contains xs x → k x ≡ l x) → IsInOrder k xs → IsInOrder l xs
  unfolding IsInOrder
  same_order [] same order = tt
  same_order (x ∷ xs) same order = (
    same_behind x xs (same x (Contains-head x xs)) (λ y here. same y (Contains-later x y xs here)) order.0,
    same_order xs (λ y here. same y (Contains-later x y xs here)) order.1,
  )

-- whether the cluster of a place stands in the level
abbrev kept : Level → Store → ℕ × ℕ → Bool
kept level store place = passes (is_in level) (finmap.get store.clusters place.0)

level_in_order : (level : Level) (store : Store) → IsOrdered store.clusters store.order → IsInOrder (key_at store.clusters) (places_in level store)
unfolding places_by
level_in_order level store ordered = filter_in_order (key_at store.clusters) (kept level store) store.order ordered.sorted

module _ (a b : Level) (one two : Store) (first : IsOrdered one.clusters one.order) (second : IsOrdered two.clusters two.order)
    (same : HaveSameClusters a one.clusters b two.clusters) where
  -- what stands in the one level stands in the other, with the same parts
  there_too : (n : ℕ) (o : Option Stored) → finmap.get one.clusters n ≡ o → passes (is_in a) o ≡ true
      → (passes (is_in b) (finmap.get two.clusters n) ≡ true) × (parts_in (finmap.get one.clusters n) ≡ parts_in (finmap.get two.clusters n))
  there_too n None is pass = absurd (false_true pass)
  there_too n (Some s) is pass =
      let there = (same n s.cluster).0 (s, is, refl, pass) in (
        ap (passes (is_in b)) there.1 ∙ there.3,
        ap parts_in is ∙ sym (ap parts_in there.1 ∙ ap (λ (c : Cluster). c.parts) there.2),
      )

  of_place : (x : ℕ × ℕ) → Contains (places_in a one) x
      → (parts_in (finmap.get one.clusters x.0) ≡ parts_in (finmap.get two.clusters x.0)) × Contains (places_in b two) x
  unfolding places_by
  of_place x here =
      let stands = filter-Contains (kept a one) one.order x here in
      let there = there_too x.0 (finmap.get one.clusters x.0) refl stands.0 in
      let low = subst (λ (ps : List Part). x.1 < length ps) there.1 ((first.exact x).0 stands.1) in
      (there.1, Contains-filter (kept b two) two.order x there.0 ((second.exact x).1 low))

  same_key : (x : ℕ × ℕ) → Contains (places_in a one) x → key_at one.clusters x ≡ key_at two.clusters x
  same_key x here = ap (λ (ps : List Part). key_part x.0 x.1 (slice_index_or ps x.1 no_part)) (of_place x here).0

  same_shown : (x : ℕ × ℕ) → Contains (places_in a one) x → shown_at one.clusters x ≡ shown_at two.clusters x
  same_shown x here = ap {B = Shown} (λ (ps : List Part). record { number = x.0; part = slice_index_or ps x.1 no_part }) (of_place x here).0

turned : (a b : Level) (one two : Store) → HaveSameClusters a one.clusters b two.clusters → HaveSameClusters b two.clusters a one.clusters
turned a b one two same n c = ((same n c).1, (same n c).0)

module _ (a b : Level) (one two : Store) (first : IsOrdered one.clusters one.order) (second : IsOrdered two.clusters two.order)
    (same : HaveSameClusters a one.clusters b two.clusters) where
  pub places_told : places_in a one ≡ places_in b two
  places_told =
      ordered_once (key_at two.clusters) (places_in a one) (places_in b two)
      (same_order (key_at one.clusters) (key_at two.clusters) (places_in a one) (same_key a b one two first second same) (level_in_order a one first))
      (level_in_order b two second) (λ x here. (of_place a b one two first second same x here).1)
      (λ x here. (of_place b a two one second first (turned a b one two same) x here).1)

  pub shown_told : shown_in a one ≡ shown_in b two
  shown_told =
      map_along (shown_at one.clusters) (shown_at two.clusters) (places_in a one) (same_shown a b one two first second same)
      ∙ ap (map (shown_at two.clusters)) places_told

pub parts_are_told_by_clusters : PartsAreToldByClusters
parts_are_told_by_clusters = record {
  shown = shown_told;
  parts = λ a b one two first second same. ap (map (λ (s : Shown). s.part)) (shown_told a b one two first second same);
}
