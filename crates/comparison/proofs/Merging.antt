-- What stands in one level alone merges with what stands in both to the level, told by the tags of the clusters.
use Rattle.std.proofs.Common.{◌≡◌, ◌⊎◌, ℕ, ◌<◌, ◌≤◌, pos, ◌≤ℤ◌, Bool, true, List, [], ◌∷◌, ◌++◌, map, length, nat_lt, Option, None, Some, Contains, ◌↔◌, inl, inr, refl, sym, ap, ◌∙◌, subst, subst₂, arith}
use Rattle.std.proofs.lemmas.List.{map-append}
use Rattle.std.specs.FinMap as finmap
use Rattle.std.specs.Iterator.{YieldsFirstBy}
use Rattle.std.specs.List.{filter}
use Rattle.std.proofs.lemmas.Bool.Decides.{nat_tests}
use Rattle.lists.proofs.Entries.{Contains-map, Contains-filter, filter-Contains, map-Contains}
use Rattle.fee_rate.specs.declared.rates.FeeRate.{FeeRate}
use Rattle.fee_rate.specs.declared.rates.Sum.{Sum}
use Rattle.graphs.specs.declared.names.Level.{Level}
use Rattle.graphs.specs.declared.names.Level.TheVariants.{Main, Top}
use Rattle.graphs.specs.Rates.{Falls}
use Rattle.graphs.proofs.MergeLemmas.{sorted_falls}
use Rattle.chunk_index.specs.declared.entry.Tag.{Tag}
use Rattle.chunk_index.specs.declared.entry.Tag.TheVariants.{Both, MainOnly, TopOnly}
use Rattle.chunk_index.specs.Items.{is_in, same_tag}
use Rattle.cluster_store.specs.Stores.{Stored, Numbered, Store, Shown, IsOrdered, parts_in, part_at, passes, places_by, shown_at, shown_by, shown_in, shown_only, parts_of_level}
use Rattle.cluster_store.proofs.Levels.{comes_before, before_falls, sorted_places}
use Rattle.diagram.specs.Parts.{rate_of, sums_of, AreLevelParts}
use Rattle.diagram.proofs.StepLemmas.{always_first}
use Rattle.replacement.specs.Changes.{EndsNonNegative, AreNonNegative, HaveSizes, IsEither, IsMerged, YieldsChanges}
use Rattle.replacement.specs.Merging.{FitTogether}
use Rattle.replacement.proofs.LevelLemmas.{changes_are_level_parts, tested_parts_merge}
use Rattle.replacement.proofs.MergedWalks.{level_parts}
use Rattle.replacement.proofs.PartLists.{empty_ends, last_decides}

-- ---- what walks over a level show

-- the rates of what is shown are those of its parts
pub rates_shown : (shown : List Shown) → map (λ (s : Shown). s.part.rate) shown ≡ sums_of (map (λ (s : Shown). s.part) shown)
rates_shown [] = refl
rates_shown (s ∷ shown) = ap (λ (rest : List Sum). s.part.rate ∷ rest) (rates_shown shown)

module _ (level : Level) (store : Store) where
  -- whether its last part has a fee of at least 0
  pub ends_by_last : (front : List Shown) (last : Shown) → shown_in level store ≡ front ++ last ∷ []
      → (pos 0 ≤ℤ last.part.rate.fee) ↔ EndsNonNegative (sums_of (parts_of_level level store))
  ends_by_last front last is =
      let told : sums_of (parts_of_level level store) ≡ map (λ (s : Shown). s.part.rate) front ++ last.part.rate ∷ [] =
      sym (rates_shown (shown_in level store)) ∙ ap (map (λ (s : Shown). s.part.rate)) is ∙ map-append (λ (s : Shown). s.part.rate) front (last ∷ []) in
      let decides = last_decides (map (λ (s : Shown). s.part.rate) front) last.part.rate in (
        λ pays. subst EndsNonNegative (sym told) (decides.1 pays),
        λ ends. decides.0 (subst EndsNonNegative told ends),
      )

  pub none_ends : shown_in level store ≡ [] → EndsNonNegative (sums_of (parts_of_level level store))
  none_ends none = subst EndsNonNegative (ap (λ (shown : List Shown). sums_of (map (λ (s : Shown). s.part) shown)) (sym none)) empty_ends

-- ---- what stands under tags

abbrev rate_at : Numbered → ℕ × ℕ → Sum
rate_at clusters place = (part_at clusters place).rate

rates_of_places : (clusters : Numbered) (places : List (ℕ × ℕ))
    → map (λ (s : Shown). s.part.rate) (map (shown_at clusters) places) ≡ map (rate_at clusters) places
rates_of_places clusters [] = refl
rates_of_places clusters (place ∷ places) = ap (λ (rest : List Sum). rate_at clusters place ∷ rest) (rates_of_places clusters places)

-- the rates of the parts whose clusters' tags pass a test
abbrev pub rates_by : (Tag → Bool) → Store → List Sum
rates_by test store = map (λ (s : Shown). s.part.rate) (shown_by test store)

abbrev test_at : (Tag → Bool) → Numbered → ℕ × ℕ → Bool
test_at test clusters place = passes test (finmap.get clusters place.0)

tested : (test : Tag → Bool) (store : Store) → rates_by test store ≡ map (rate_at store.clusters) (filter (test_at test store.clusters) store.order)
unfolding places_by
tested test store = rates_of_places store.clusters (filter (test_at test store.clusters) store.order)

-- what has a part stands in main or in the top level
in_either : (o : Option Stored) (position : ℕ) → position < length (parts_in o) → (passes (is_in Main) o ≡ true) ⊎ (passes (is_in Top) o ≡ true)
in_either None position low = absurd (omega (arith, low))
in_either (Some s) position low = by s.tag
  where
    by : (t : Tag) → (is_in Main t ≡ true) ⊎ (is_in Top t ≡ true)
    by Both = inl refl
    by MainOnly = inl refl
    by TopOnly = inr refl

size_real : (n : ℕ) → 1 ≤ n → nat_lt 0 n ≡ true
size_real n e = grind (arith, nat_tests)

-- ---- a store whose parts fit together, of each level

module _ (store : Store) (ordered : IsOrdered store.clusters store.order)
    (fits : (level : Level) → FitTogether (sums_of (parts_of_level level store))) where
  -- a part of a level has a size
  sized_in : (level : Level) (place : ℕ × ℕ) → Contains store.order place → test_at (is_in level) store.clusters place ≡ true
      → 1 ≤ (rate_at store.clusters place).size
  sized_in level place here passed =
      let told = sym (rates_shown (shown_in level store)) ∙ tested (is_in level) store in
      (fits level).some (rate_at store.clusters place)
      (subst (λ (rates : List Sum). Contains rates (rate_at store.clusters place)) (sym told)
      (Contains-map (rate_at store.clusters) (filter (test_at (is_in level) store.clusters) store.order) place
      (Contains-filter (test_at (is_in level) store.clusters) store.order place passed here)))

  sized : (place : ℕ × ℕ) → Contains store.order place → 1 ≤ (rate_at store.clusters place).size
  sized place here = elim (in_either (finmap.get store.clusters place.0) place.1 ((ordered.exact place).0 here)) [
    | inl main ↦ sized_in Main place here main
    | inr top ↦ sized_in Top place here top
  ]

  -- so every part that is stored has one, and rates fall
  all_sized : HaveSizes (map (rate_at store.clusters) store.order)
  all_sized rate here =
      let found = map-Contains (rate_at store.clusters) store.order rate here in
      subst (λ (s : Sum). 1 ≤ s.size) found.2 (sized found.0 found.1)

  all_fall : Falls (map (rate_at store.clusters) store.order)
  all_fall =
      sorted_falls (comes_before store.clusters) (rate_at store.clusters) store.order (before_falls store.clusters)
      (sorted_places store.clusters store.order ordered.sorted (λ place here. size_real (rate_at store.clusters place).size (sized place here)))

  -- what stands under tags falls
  pub falls_by : (test : Tag → Bool) → Falls (rates_by test store)
  falls_by test =
      subst Falls (sym (tested test store))
      (tested_parts_merge.falling (rate_at store.clusters) (test_at test store.clusters) store.order all_sized all_fall)

  -- and has sizes
  pub sizes_by : (test : Tag → Bool) → HaveSizes (rates_by test store)
  sizes_by test =
      subst HaveSizes (sym (tested test store))
      (λ rate here. all_sized rate (within rate here))
    where
      within : (rate : Sum) → Contains (map (rate_at store.clusters) (filter (test_at test store.clusters) store.order)) rate
          → Contains (map (rate_at store.clusters) store.order) rate
      within rate here =
          let found = map-Contains (rate_at store.clusters) (filter (test_at test store.clusters) store.order) rate here in
          subst (Contains (map (rate_at store.clusters) store.order)) found.2
          (Contains-map (rate_at store.clusters) store.order found.0 (filter-Contains (test_at test store.clusters) store.order found.0 found.1).1)

  either_at : (alone common level : Tag → Bool) → ((tag : Tag) → IsEither (alone tag) (common tag) (level tag)) → (place : ℕ × ℕ)
      → IsEither (test_at alone store.clusters place) (test_at common store.clusters place) (test_at level store.clusters place)
  either_at alone common level each place = by (finmap.get store.clusters place.0)
    where
      by : (o : Option Stored) → IsEither (passes alone o) (passes common o) (passes level o)
      by None = refl
      by (Some s) = each s.tag

  merges : (alone common level : Tag → Bool) → ((tag : Tag) → IsEither (alone tag) (common tag) (level tag))
      → IsMerged (rates_by alone store) (rates_by common store) (rates_by level store)
  merges alone common level each =
      let made = tested_parts_merge.merged (rate_at store.clusters) (test_at alone store.clusters) (test_at common store.clusters)
      (test_at level store.clusters) store.order all_sized all_fall (either_at alone common level each) in
      subst (λ (l : List Sum). IsMerged (rates_by alone store) (rates_by common store) l) (sym (tested level store))
      (subst₂ (λ (a b : List Sum). IsMerged a b (map (rate_at store.clusters) (filter (test_at level store.clusters) store.order)))
      (sym (tested alone store)) (sym (tested common store)) made)

  -- ---- a level, and the tag of what stands in it alone

  module _ (level : Level) (tag : Tag) (alone : (t : Tag) → IsEither (same_tag tag t) (same_tag Both t) (is_in level t)) where
    pub level_merges : IsMerged (rates_by (same_tag tag) store) (rates_by (same_tag Both) store) (sums_of (parts_of_level level store))
    level_merges =
        subst (λ (l : List Sum). IsMerged (rates_by (same_tag tag) store) (rates_by (same_tag Both) store) l) (rates_shown (shown_in level store))
        (merges (same_tag tag) (same_tag Both) (is_in level) alone)

    module _ (ends : EndsNonNegative (sums_of (parts_of_level level store))) where
      are_parts : AreLevelParts (sums_of (parts_of_level level store))
      are_parts = level_parts (sums_of (parts_of_level level store)) level_merges.falling (fits level)

      alone_are_parts : AreLevelParts (rates_by (same_tag tag) store) × EndsNonNegative (rates_by (same_tag tag) store)
      alone_are_parts =
          changes_are_level_parts.alone (rates_by (same_tag tag) store) (rates_by (same_tag Both) store) (sums_of (parts_of_level level store))
          are_parts ends level_merges (falls_by (same_tag tag))

      pub yields_alone : (rates : List Sum) → rates ≡ map (λ (s : Shown). s.part.rate) (shown_only tag store)
          → YieldsChanges {S = List Sum} (YieldsFirstBy rate_of (λ rest. rest)) rates (rates_by (same_tag tag) store)
      yields_alone rates told = record {
        yields = record {
          yields = always_first {A = FeeRate} rate_of rates (rates_by (same_tag tag) store) told;
          level = alone_are_parts.0;
        };
        last = alone_are_parts.1;
      }

      pub common_pays : AreNonNegative (rates_by (same_tag Both) store)
      common_pays =
          changes_are_level_parts.common (rates_by (same_tag tag) store) (rates_by (same_tag Both) store) (sums_of (parts_of_level level store))
          are_parts ends level_merges

pub main_alone : (t : Tag) → IsEither (same_tag MainOnly t) (same_tag Both t) (is_in Main t)
main_alone Both = refl
main_alone MainOnly = refl
main_alone TopOnly = refl

pub top_alone : (t : Tag) → IsEither (same_tag TopOnly t) (same_tag Both t) (is_in Top t)
top_alone Both = refl
top_alone MainOnly = refl
top_alone TopOnly = refl
