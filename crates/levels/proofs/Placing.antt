-- The parts of a level and the places that they stand at: each part has one, and of two the one stands first that does so by its place.
use Rattle.std.proofs.Common.{◌≡◌, ℕ, ◌<◌, Bool, true, List, [], length, map, Contains, Option, Some, None, refl, sym, ap, ◌∙◌, subst, subst₂, true≢false}
use Rattle.std.specs.List.{slice_index_or}
use Rattle.std.specs.FinMap as finmap
use Rattle.std.proofs.lemmas.Option.{slice_get-get_or, slice_get_within, get_or_from_slice_get}
use Rattle.lists.proofs.Entries.{filter-Contains, map-Contains, none_in_empty}
use Rattle.graphs.specs.declared.names.Level.{Level}
use Rattle.graphs.specs.Certificates.{Part}
use Rattle.graphs.specs.Merges.{Precedes}
use Rattle.lists.proofs.Flats.{flat_has}
use Rattle.chunk_index.specs.Items.{is_in}
use Rattle.cluster.specs.Clusters.{Cluster, IsCluster}
use Rattle.cluster.proofs.Placed.{in_names}
use Rattle.record.specs.Records.{IsRecord}
use Rattle.cluster_store.specs.Laws.{Stands, StandsAt}
use Rattle.cluster_store.specs.Stores.{Stored, Store, Shown, IsStore, no_part, parts_in, part_at, parts_of_level, passes, places_by, places_in, shown_at, shown_in}
use Rattle.cluster_store.proofs.Before.{by_places, parts_stand_in_order}
use Rattle.graphs.proofs.MergeLemmas.{precedes_filter, precedes_map}
use Rattle.levels.proofs.Preceding.{precedes_both, unfiltered, unmapped}

module _ (most : ℕ) (level : Level) (store : Store) (is : IsStore most store) where
  passing : ℕ × ℕ → Bool
  passing place = passes (is_in level) (finmap.get store.clusters place.0)

  stood_in : (place : ℕ × ℕ) (o : Option Stored) → finmap.get store.clusters place.0 ≡ o → passes (is_in level) o ≡ true → place.1 < length (parts_in o)
      → StandsAt level store.clusters place (part_at store.clusters place)
  stood_in place None there passed low = absurd (true≢false (sym passed))
  stood_in place (Some s) there passed low = (
    s.cluster,
    (s, there, refl, passed),
    slice_get-get_or s.cluster.parts place.1 no_part low ∙ ap (λ (o : Option Stored). Some (slice_index_or (parts_in o) place.1 no_part)) (sym there),
  )

  -- a place of the level has its part
  stood : (place : ℕ × ℕ) → Contains (places_in level store) place → StandsAt level store.clusters place (part_at store.clusters place)
  unfolding passing places_by
  stood place here =
      let kept = filter-Contains passing store.order place here in
      stood_in place (finmap.get store.clusters place.0) refl kept.0 ((is.ordered.exact place).0 kept.1)

  -- and each part of the level a place
  pub placed : (part : Part) → Contains (parts_of_level level store) part → (place : ℕ × ℕ) × StandsAt level store.clusters place part
  placed part here =
      let place = map-Contains (part_at store.clusters) (places_in level store) part (subst (λ (ps : List Part). Contains ps part) (sym (by_places most level store is)) here) in
      (place.0, subst (StandsAt level store.clusters place.0) place.2 (stood place.0 place.1))

  -- what is shown stands at a place of its number
  pub record IsPlaced (s : Shown) : Type 0 where
    pub place : ℕ × ℕ
    pub number : place.0 ≡ s.number
    pub stands : StandsAt level store.clusters place s.part

  pub shown_placed : (s : Shown) → Contains (shown_in level store) s → IsPlaced s
  shown_placed s here =
      let found = map-Contains (shown_at store.clusters) (places_in level store) s here in
      record {
        place = found.0;
        number = ap (λ (t : Shown). t.number) found.2;
        stands = subst (λ (t : Shown). StandsAt level store.clusters found.0 t.part) found.2 (stood found.0 found.1);
      }

  pub shown : (place : ℕ × ℕ) (part : Part) → StandsAt level store.clusters place part → Contains (parts_of_level level store) part
  shown = (parts_stand_in_order most level store is).shown

  pub whole : (n : ℕ) (c : Cluster) → Stands level store.clusters n c → (c.parts ≡ [] → ⊥) → IsCluster most c
  whole n c stands some = (subst (IsRecord most) stands.2 (is.whole n stands.0 stands.1)).ordered some

  -- a part's names are its cluster's
  pub in_cluster : (place : ℕ × ℕ) (part : Part) (stands : StandsAt level store.clusters place part) (id : ℕ) → Contains part.ids id
      → Contains stands.0.names id
  in_cluster place part stands id here =
      let c = stands.0 in
      let listed : Contains c.parts part =
      (place.1, slice_get_within c.parts place.1 part stands.2, get_or_from_slice_get c.parts place.1 part part stands.2) in
      let some : c.parts ≡ [] → ⊥ = λ none. none_in_empty part (subst (λ (ps : List Part). Contains ps part) none listed) in
      in_names most c (whole place.0 c stands.1 some) id (flat_has (λ (p : Part). p.ids) c.parts part id listed here)

  part_is : (place : ℕ × ℕ) (part : Part) → StandsAt level store.clusters place part → part_at store.clusters place ≡ part
  part_is place part stands =
      ap (λ (o : Option Stored). slice_index_or (parts_in o) place.1 no_part) stands.1.1
      ∙ ap (λ (c : Cluster). slice_index_or c.parts place.1 no_part) stands.1.2
      ∙ get_or_from_slice_get stands.0.parts place.1 part no_part stands.2

  passed_at : (place : ℕ × ℕ) (part : Part) → StandsAt level store.clusters place part → passing place ≡ true
  unfolding passing
  passed_at place part stands = ap (passes (is_in level)) stands.1.1 ∙ stands.1.3

  -- two parts of the level stand as their places do
  pub parts_before : (x y : ℕ × ℕ) (p q : Part) → StandsAt level store.clusters x p → StandsAt level store.clusters y q → Precedes store.order x y
      → Precedes (parts_of_level level store) p q
  unfolding passing places_by
  parts_before x y p q first second before =
      let in_level : Precedes (places_in level store) x y = precedes_filter passing store.order x y (passed_at x p first) (passed_at y q second) before in
      let of_places = precedes_map (part_at store.clusters) (places_in level store) x y in_level in
      subst (λ (ps : List Part). Precedes ps p q) (by_places most level store is)
      (subst₂ (λ (a b : Part). Precedes (map (part_at store.clusters) (places_in level store)) a b) (part_is x p first) (part_is y q second) of_places)

  -- two places of the order with these parts
  pub record HavePlaces (p q : Part) : Type 0 where
    pub x : ℕ × ℕ
    pub y : ℕ × ℕ
    pub first : StandsAt level store.clusters x p
    pub second : StandsAt level store.clusters y q
    pub before : Precedes store.order x y

  pub places_before : (p q : Part) → Precedes (parts_of_level level store) p q → HavePlaces p q
  unfolding passing places_by
  places_before p q before =
      let m = unmapped (part_at store.clusters) (places_in level store) p q (subst (λ (ps : List Part). Precedes ps p q) (sym (by_places most level store is)) before) in
      let both = precedes_both (places_in level store) m.x m.y m.before in
      record {
        x = m.x;
        y = m.y;
        first = subst (StandsAt level store.clusters m.x) m.first (stood m.x both.0);
        second = subst (StandsAt level store.clusters m.y) m.second (stood m.y both.1);
        before = unfiltered passing store.order m.x m.y m.before;
      }
