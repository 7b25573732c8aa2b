-- Which of two parts walks show first, and where the parts and the names of a cluster stand among those of a level.
use Rattle.std.proofs.Common.{◌≡◌, ◌↔◌, ◌⊎◌, ℕ, ◌+◌, ◌<◌, Bool, true, List, [], refl, ◌++◌, ◌∷◌, map, flat_map, length, get_or, Contains, Option, arith, inl, inr, sym, ap, ap₂, ◌∙◌, subst}
use Rattle.std.proofs.lemmas.List.{append_assoc}
use Rattle.std.proofs.lemmas.List.Elements.{Contains-append_cases, Contains-append_left, Contains-append_right}
use Rattle.std.proofs.lemmas.List.Folds.{flat_map-map}
use Rattle.std.proofs.lemmas.Option.{get_or_from_slice_get, slice_get_within}
use Rattle.std.proofs.lemmas.Simd.{map-map}
use Rattle.std.specs.declared.cmp.Ordering.TheVariants.{Less}
use Rattle.std.specs.List.{slice_index_or}
use Rattle.std.specs.FinMap as finmap
use Rattle.lists.proofs.Entries.{none_in_empty, Contains-head, Contains-cases, Contains-filter, Contains-map, Contains-splits}
use Rattle.graphs.proofs.MergeLemmas.{precedes_filter, flat_stands, stands_within, stands_apart}
use Rattle.graphs.specs.declared.names.Level.{Level}
use Rattle.graphs.specs.Certificates.{Part}
use Rattle.graphs.specs.Linearizations.{StandsBefore}
use Rattle.graphs.specs.Merges.{Precedes}
use Rattle.graphs.specs.Rates.{Falls}
use Rattle.graphs.proofs.ClosureGraphs.{closures_have_graphs}
use Rattle.chunk_index.specs.declared.key.Key.{Key}
use Rattle.chunk_index.specs.Items.{Items, is_in}
use Rattle.chunk_index.specs.KeyOrder.{key_cmp}
use Rattle.chunk_index.specs.Keys.{IsInOrder}
use Rattle.cluster.specs.Clusters.{Cluster, IsCluster}
use Rattle.record.specs.Records.{IsRecord}
use Rattle.cluster.proofs.Placed.{beyond, closed}
use Rattle.cluster_store.specs.Laws.{Stands, StandsAt, PartsStandInOrder, AllStandInOrder, names_in_order}
use Rattle.cluster_store.specs.Stores.{Stored, Store, Shown, IsStore, key_in, key_at, no_part, parts_in, part_at, parts_of_level, passes, places_by, places_in, shown_at}
use Rattle.cluster_store.specs.Kept.{Slots, at, shelved, place_of, IsShown}
use Rattle.cluster_store.proofs.Levels.{part_sizes, part_rates}
use Rattle.cluster_store.proofs.Orders.{precedes_less, less_precedes}
use Rattle.cluster_store.proofs.Rates.{places_from, places_in_order, places_listed, places_parts}
use Rattle.cluster_store.proofs.Shelves.{get_shelved}
use Rattle.cluster_store.proofs.Walks.{is_ordered}

module _ (slots : Slots) (items : Items) (shown : IsShown slots items) (x y : ℕ × ℕ) where
  pub place_low : (place : ℕ × ℕ) → Contains (map place_of items) place → place.1 < length (parts_in (at slots place.0))
  place_low place here =
      subst (λ (o : Option Stored). place.1 < length (parts_in o)) (get_shelved slots place.0) (((is_ordered slots items shown).exact place).0 here)

  keyed : (place : ℕ × ℕ) → key_at (shelved slots) place ≡ key_in (at slots place.0) place
  keyed place = ap (λ (o : Option Stored). key_in o place) (get_shelved slots place.0)

  -- of two parts the one of the lower key
  pub told_before : (k l : Key) → k ≡ key_in (at slots x.0) x → l ≡ key_in (at slots y.0) y → Contains (map place_of items) x → Contains (map place_of items) y
      → (b : Bool) → (b ≡ true) ↔ (key_cmp k l ≡ Less) → (b ≡ true) ↔ Precedes (map place_of items) x y
  told_before k l first second x_in y_in b is =
      let same : key_cmp k l ≡ key_cmp (key_at (shelved slots) x) (key_at (shelved slots) y) = ap₂ key_cmp (first ∙ sym (keyed x)) (second ∙ sym (keyed y)) in
      let sorted = (is_ordered slots items shown).sorted in (
        λ e. less_precedes (key_at (shelved slots)) (map place_of items) x y sorted x_in y_in (sym same ∙ is.0 e),
        λ before. is.1 (same ∙ precedes_less (key_at (shelved slots)) before.0 before.1 x y
            (subst (IsInOrder (key_at (shelved slots))) before.2 sorted) before.3),
      )

-- ---- the names of a level

-- of two entries one stands before the other, or they are the same
pub either_way : {A : Type 0} (xs : List A) (x y : A) → Contains xs x → Contains xs y → (x ≡ y) ⊎ (Precedes xs x y ⊎ Precedes xs y x)
either_way xs x y x_in y_in =
    let cut = Contains-splits xs x x_in in
    elim (Contains-append_cases cut.0 (x ∷ cut.1) y (subst (λ zs. Contains zs y) cut.2 y_in)) [
      | inl first ↦ inr (inr (cut.0, cut.1, cut.2, first))
      | inr later ↦ elim (Contains-cases x y cut.1 later) [
        | inl same ↦ inl same
        | inr behind ↦
            let rest = Contains-splits cut.1 y behind in
            inr (inl (
              cut.0 ++ x ∷ rest.0,
              rest.1,
              cut.2 ∙ ap (λ zs. cut.0 ++ x ∷ zs) rest.2 ∙ sym (append_assoc cut.0 (x ∷ rest.0) (y ∷ rest.1)),
              Contains-append_right cut.0 (x ∷ rest.0) x (Contains-head x rest.0),
            ))
      ]
    ]

module _ (most : ℕ) (level : Level) (store : Store) (is : IsStore most store) where
  kept : (place : ℕ × ℕ) → Bool
  kept place = passes (is_in level) (finmap.get store.clusters place.0)

  -- the names of a place's part
  abbrev names_at : ℕ × ℕ → List ℕ
  names_at place = (part_at store.clusters place).ids

  -- a level's parts, by their places
  pub by_places : map (part_at store.clusters) (places_in level store) ≡ parts_of_level level store
  by_places = sym (map-map (λ (s : Shown). s.part) (shown_at store.clusters) (places_in level store))

  names_by_places : flat_map names_at (places_in level store) ≡ names_in_order level store
  names_by_places = sym (flat_map-map (λ (part : Part). part.ids) (part_at store.clusters) (places_in level store))
      ∙ ap (flat_map (λ (part : Part). part.ids)) by_places

  -- a place that has a part, in the level
  kept_there : (place : ℕ × ℕ) → kept place ≡ true → place.1 < length (parts_in (finmap.get store.clusters place.0)) → Contains (places_in level store) place
  unfolding kept places_by
  kept_there place keeps low = Contains-filter kept store.order place keeps ((is.ordered.exact place).1 low)

  kept_before : (x y : ℕ × ℕ) → kept x ≡ true → kept y ≡ true → Precedes store.order x y → Precedes (places_in level store) x y
  unfolding kept places_by
  kept_before x y x_kept y_kept before = precedes_filter kept store.order x y x_kept y_kept before

  module _ (n : ℕ) (c : Cluster) (stands : Stands level store.clusters n c) where
    of_cluster : parts_in (finmap.get store.clusters n) ≡ c.parts
    of_cluster = ap parts_in stands.1 ∙ ap (λ (c : Cluster). c.parts) stands.2

    passes_test : passes (is_in level) (finmap.get store.clusters n) ≡ true
    passes_test = ap (passes (is_in level)) stands.1 ∙ stands.3

    whole : (c.parts ≡ [] → ⊥) → IsCluster most c
    whole = (subst (IsRecord most) stands.2 (is.whole n stands.0 stands.1)).ordered

    -- the places of its parts
    own : List (ℕ × ℕ)
    own = places_from n 0 (parts_in (finmap.get store.clusters n))

    follows : (j : ℕ) → j < length (parts_in (finmap.get store.clusters n))
        → part_at store.clusters (n, 0 + j) ≡ get_or (parts_in (finmap.get store.clusters n)) j no_part
    follows j low = let same : 0 + j ≡ j = omega arith in ap (λ k. get_or (parts_in (finmap.get store.clusters n)) k no_part) same

    ordered_sorted : IsCluster most c → IsInOrder (key_at store.clusters) own
    unfolding own
    ordered_sorted cluster =
        let graph = closures_have_graphs (beyond c.names) c.graph (closed most c cluster) in
        places_in_order store.clusters n 0 (parts_in (finmap.get store.clusters n)) follows
        (subst (λ (ps : List Part). Falls (map (λ (part : Part). part.rate) ps)) (sym of_cluster) (part_rates most c cluster graph.0 graph.2))
        (λ p here. part_sizes most c cluster graph.0 graph.2 p (subst (λ (ps : List Part). Contains ps p) of_cluster here))

    -- without parts there is no place
    none_sorted : c.parts ≡ [] → IsInOrder (key_at store.clusters) own
    unfolding own
    none_sorted none =
        subst (λ (ps : List Part). IsInOrder (key_at store.clusters) (places_from n 0 ps)) (sym (of_cluster ∙ none))
        (places_in_order store.clusters n 0 [] (λ j low. absurd (omega (arith, low))) tt (λ p here. absurd (none_in_empty p here)))

    own_sorted : IsInOrder (key_at store.clusters) own
    own_sorted = by c.parts refl
      where
        by : (ps : List Part) → c.parts ≡ ps → IsInOrder (key_at store.clusters) own
        by [] none = none_sorted none
        by (p ∷ ps) some = ordered_sorted (whole (λ none. nonempty (sym some ∙ none)))
          where
            nonempty : p ∷ ps ≡ [] → ⊥
            nonempty e = cc

    own_low : (x : ℕ × ℕ) → Contains own x → (x.0 ≡ n) × (x.1 < length (parts_in (finmap.get store.clusters x.0)))
    unfolding own
    own_low x here =
        let at = places_listed n 0 (parts_in (finmap.get store.clusters n)) x here in (
          at.0,
          subst (λ m. x.1 < length (parts_in (finmap.get store.clusters m))) (sym at.0)
              (let low : x.1 < length (parts_in (finmap.get store.clusters n)) = omega (arith, at.2) in low),
        )

    own_kept : (x : ℕ × ℕ) → Contains own x → kept x ≡ true
    unfolding kept
    own_kept x here = ap (λ m. passes (is_in level) (finmap.get store.clusters m)) (own_low x here).0 ∙ passes_test

    own_names : flat_map names_at own ≡ flat_map (λ part. part.ids) c.parts
    unfolding own
    own_names =
        sym (flat_map-map (λ (part : Part). part.ids) (part_at store.clusters) own)
        ∙ ap (flat_map (λ (part : Part). part.ids)) (places_parts store.clusters n 0 (parts_in (finmap.get store.clusters n)) follows ∙ of_cluster)

    -- the parts of one cluster stand in the store's order
    own_before : (x y : ℕ × ℕ) → Precedes own x y → Precedes store.order x y
    own_before x y before =
        let x_in : Contains own x = subst (λ zs. Contains zs x) (sym before.2) (Contains-append_left before.0 (y ∷ before.1) x before.3) in
        let y_in : Contains own y = subst (λ zs. Contains zs y) (sym before.2) (Contains-append_right before.0 (y ∷ before.1) y (Contains-head y before.1)) in
        less_precedes (key_at store.clusters) store.order x y is.ordered.sorted
        ((is.ordered.exact x).1 (own_low x x_in).1) ((is.ordered.exact y).1 (own_low y y_in).1)
        (precedes_less (key_at store.clusters) before.0 before.1 x y (subst (IsInOrder (key_at store.clusters)) before.2 own_sorted) before.3)

    names_inside : (a b : ℕ) → StandsBefore (flat_map (λ part. part.ids) c.parts) a b → StandsBefore (names_in_order level store) a b
    names_inside a b before =
        subst (λ ids. StandsBefore ids a b) names_by_places
        (elim (flat_stands names_at own a b (subst (λ ids. StandsBefore ids a b) (sym own_names) before)) [
          | inl one ↦ stands_within names_at (places_in level store) one.0 a b (kept_there one.0 (own_kept one.0 one.1) (own_low one.0 one.1).1) one.2
          | inr two ↦
              let x_in : Contains own two.0 = subst (λ zs. Contains zs two.0) (sym two.2.2) (Contains-append_left two.2.0 (two.1 ∷ two.2.1) two.0 two.2.3) in
              let y_in : Contains own two.1 =
              subst (λ zs. Contains zs two.1) (sym two.2.2) (Contains-append_right two.2.0 (two.1 ∷ two.2.1) two.1 (Contains-head two.1 two.2.1)) in
              stands_apart names_at (places_in level store) two.0 two.1 a b
              (kept_before two.0 two.1 (own_kept two.0 x_in) (own_kept two.1 y_in) (own_before two.0 two.1 two.2)) two.3 two.4
        ])

  module _ (place : ℕ × ℕ) (p : Part) (stands : StandsAt level store.clusters place p) where
    part_is : part_at store.clusters place ≡ p
    part_is =
        ap (λ (ps : List Part). slice_index_or ps place.1 no_part) (of_cluster place.0 stands.0 stands.1)
        ∙ get_or_from_slice_get stands.0.parts place.1 p no_part stands.2

    part_low : place.1 < length (parts_in (finmap.get store.clusters place.0))
    part_low = subst (λ (ps : List Part). place.1 < length ps) (sym (of_cluster place.0 stands.0 stands.1)) (slice_get_within stands.0.parts place.1 p stands.2)

    part_kept : kept place ≡ true
    unfolding kept
    part_kept = passes_test place.0 stands.0 stands.1

    part_shown : Contains (parts_of_level level store) p
    part_shown =
        subst (λ (ps : List Part). Contains ps p) by_places
        (subst (Contains (map (part_at store.clusters) (places_in level store))) part_is
        (Contains-map (part_at store.clusters) (places_in level store) place (kept_there place part_kept part_low)))

  parts_before : (x y : ℕ × ℕ) (p q : Part) (a b : ℕ) → StandsAt level store.clusters x p → StandsAt level store.clusters y q → Precedes store.order x y
      → Contains p.ids a → Contains q.ids b → StandsBefore (names_in_order level store) a b
  parts_before x y p q a b first second before a_in b_in =
      subst (λ ids. StandsBefore ids a b) names_by_places
      (stands_apart names_at (places_in level store) x y a b (kept_before x y (part_kept x p first) (part_kept y q second) before)
      (subst (λ (r : Part). Contains r.ids a) (sym (part_is x p first)) a_in) (subst (λ (r : Part). Contains r.ids b) (sym (part_is y q second)) b_in))

  pub in_order : PartsStandInOrder level store
  in_order = record {
    there = λ place part stands. (is.ordered.exact place).1 (part_low place part stands);
    shown = part_shown;
    inside = names_inside;
    before = parts_before;
  }

pub parts_stand_in_order : AllStandInOrder
parts_stand_in_order most level store is = in_order most level store is
