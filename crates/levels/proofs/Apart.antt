-- The parts that one level alone has, by the tags of clusters.
use Rattle.std.proofs.Common.{◌≡◌, ℕ, Bool, true, false, not, cond, ◌&&◌, List, [], ◌∷◌, map, Option, None, Some, refl, sym, ap, ◌∙◌}
use Rattle.std.specs.FinMap as finmap
use Rattle.std.specs.List.{filter}
use Rattle.graphs.specs.Certificates.{Part}
use Rattle.graphs.specs.declared.names.Level.{Level}
use Rattle.graphs.specs.declared.names.Level.TheVariants.{Main, Top}
use Rattle.chunk_index.specs.declared.entry.Tag.{Tag}
use Rattle.chunk_index.specs.declared.entry.Tag.TheVariants.{Both, MainOnly, TopOnly}
use Rattle.chunk_index.specs.Items.{is_in, same_tag}
use Rattle.cluster_store.specs.Stores.{Numbered, Shown, Store, Stored, part_at, parts_of_level, passes, places_by, shown_at, shown_only}
use Rattle.comparison.proofs.Merging.{rates_shown}
use Rattle.levels.specs.Orders.{AreApart, sums_of}

-- Entries that pass a test, each marked: of these the ones whose mark passes another are the entries that pass both.
module _ {X Y : Type 0} (first mark both : X → Bool) (second : Bool → Bool) (f : X → Y) (is : (x : X) → both x ≡ (first x && second (mark x))) where
  abbrev marked : X → Bool × Y
  marked x = (mark x, f x)

  abbrev rest : List X → List (Bool × Y)
  rest xs = filter (λ (m : Bool × Y). second m.0) (map marked (filter first xs))

  pub told : (xs : List X) → map (λ (m : Bool × Y). m.1) (filter (λ (m : Bool × Y). second m.0) (map marked (filter first xs))) ≡ map f (filter both xs)
  told [] = refl
  told (x ∷ xs) = step (first x) (second (mark x)) refl (told xs) ∙ ap (λ b. map f (cond b (x ∷ filter both xs) (filter both xs))) (sym (is x))
    where
      step : (a b : Bool) → second (mark x) ≡ b
          → map (λ (m : Bool × Y). m.1) (rest xs) ≡ map f (filter both xs)
          → map (λ (m : Bool × Y). m.1) (filter (λ (m : Bool × Y). second m.0) (map marked (cond a (x ∷ filter first xs) (filter first xs))))
          ≡ map f (cond (a && b) (x ∷ filter both xs) (filter both xs))
      step true true e same = ap (λ c. map (λ (m : Bool × Y). m.1) (cond c (marked x ∷ rest xs) (rest xs))) e ∙ ap (λ (ys : List Y). f x ∷ ys) same
      step true false e same = ap (λ c. map (λ (m : Bool × Y). m.1) (cond c (marked x ∷ rest xs) (rest xs))) e ∙ same
      step false b e same = same

-- ---- the parts of the clusters of a tag

abbrev test_at : (Tag → Bool) → Numbered → ℕ × ℕ → Bool
test_at test clusters place = passes test (finmap.get clusters place.0)

shown_parts : (clusters : Numbered) (places : List (ℕ × ℕ)) → map (λ (s : Shown). s.part) (map (shown_at clusters) places) ≡ map (part_at clusters) places
shown_parts clusters [] = refl
shown_parts clusters (place ∷ places) = ap (λ (ps : List Part). part_at clusters place ∷ ps) (shown_parts clusters places)

unmarked : {X Y : Type 0} (mark : X → Bool) (f : X → Y) (xs : List X) → map f xs ≡ map (λ (m : Bool × Y). m.1) (map (λ x. (mark x, f x)) xs)
unmarked mark f [] = refl
unmarked {X} {Y} mark f (x ∷ xs) = ap (λ (ys : List Y). f x ∷ ys) (unmarked mark f xs)

-- the levels that one tag alone has, and both
abbrev alone_of : Level → Tag
alone_of Main = MainOnly
alone_of Top = TopOnly

alone_in : (level : Level) (tag : Tag) → same_tag (alone_of level) tag ≡ (is_in level tag && same_tag (alone_of level) tag)
alone_in Main Both = refl
alone_in Main MainOnly = refl
alone_in Main TopOnly = refl
alone_in Top Both = refl
alone_in Top MainOnly = refl
alone_in Top TopOnly = refl

both_in : (level : Level) (tag : Tag) → same_tag Both tag ≡ (is_in level tag && not (same_tag (alone_of level) tag))
both_in Main Both = refl
both_in Main MainOnly = refl
both_in Main TopOnly = refl
both_in Top Both = refl
both_in Top MainOnly = refl
both_in Top TopOnly = refl

passes_alone : (level : Level) (o : Option Stored)
    → passes (same_tag (alone_of level)) o ≡ (passes (is_in level) o && passes (same_tag (alone_of level)) o)
passes_alone level None = refl
passes_alone level (Some s) = alone_in level s.tag

passes_both : (level : Level) (o : Option Stored)
    → passes (same_tag Both) o ≡ (passes (is_in level) o && not (passes (same_tag (alone_of level)) o))
passes_both level None = refl
passes_both level (Some s) = both_in level s.tag

module _ (store : Store) (level : Level) where
  abbrev marks : List (Bool × Part)
  marks = map (λ place. (test_at (same_tag (alone_of level)) store.clusters place, part_at store.clusters place))
      (filter (test_at (is_in level) store.clusters) store.order)

  all_parts : parts_of_level level store ≡ map (λ (m : Bool × Part). m.1) marks
  unfolding places_by
  all_parts = shown_parts store.clusters (filter (test_at (is_in level) store.clusters) store.order)
      ∙ unmarked (test_at (same_tag (alone_of level)) store.clusters) (part_at store.clusters) (filter (test_at (is_in level) store.clusters) store.order)

  alone_parts : map (λ (s : Shown). s.part) (shown_only (alone_of level) store)
      ≡ map (λ (m : Bool × Part). m.1) (filter (λ (m : Bool × Part). m.0) marks)
  unfolding places_by
  alone_parts = shown_parts store.clusters (filter (test_at (same_tag (alone_of level)) store.clusters) store.order)
      ∙ sym (told (test_at (is_in level) store.clusters) (test_at (same_tag (alone_of level)) store.clusters)
      (test_at (same_tag (alone_of level)) store.clusters) (λ b. b) (part_at store.clusters)
      (λ place. passes_alone level (finmap.get store.clusters place.0)) store.order)

  shared_parts : map (λ (m : Bool × Part). m.1) (filter (λ (m : Bool × Part). not m.0) marks)
      ≡ map (part_at store.clusters) (filter (test_at (same_tag Both) store.clusters) store.order)
  shared_parts = told (test_at (is_in level) store.clusters) (test_at (same_tag (alone_of level)) store.clusters)
      (test_at (same_tag Both) store.clusters) not (part_at store.clusters)
      (λ place. passes_both level (finmap.get store.clusters place.0)) store.order

pub are_apart : (store : Store) → AreApart (parts_of_level Main store) (parts_of_level Top store)
    (map (λ (s : Shown). s.part) (shown_only MainOnly store)) (map (λ (s : Shown). s.part) (shown_only TopOnly store))
are_apart store = record {
  main_marks = marks store Main;
  top_marks = marks store Top;
  main_all = all_parts store Main;
  top_all = all_parts store Top;
  main_told = alone_parts store Main;
  top_told = alone_parts store Top;
  shared = shared_parts store Main ∙ sym (shared_parts store Top);
}

pub alone_rates : (tag : Tag) (store : Store)
    → map (λ (s : Shown). s.part.rate) (shown_only tag store) ≡ sums_of (map (λ (s : Shown). s.part) (shown_only tag store))
alone_rates tag store = rates_shown (shown_only tag store)
