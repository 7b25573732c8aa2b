-- Lists that were sorted.
use Rattle.std.proofs.Common.{◌≡◌, ℕ, suc, ◌+◌, ◌<◌, ◌≤◌, List, [], ◌∷◌, ◌++◌, length, map, get_or, slice_index_or, Contains, inl, inr, ◌⊎◌, sym, ap, ◌∙◌, subst, arith, length-append}
use Rattle.std.proofs.lemmas.Bool.{cases_eq}
use Rattle.std.proofs.lemmas.List.Elements.{Contains-append_left, Contains-append_right, Contains-append_cases}
use Rattle.std.proofs.lemmas.List.Sorted.{sorted_far, ranks_by, length_permutation, Contains-permutation, IsPermutation-sym}
use Rattle.std.proofs.lemmas.List.{get_or-map, get_or_append_left, length-map}
use Rattle.std.proofs.Math.Seq.{get_or-append_seam}
use Rattle.std.specs.List.Sorted.{IsSortedByKey, IsNonDecreasingBy, IsStrictlyIncreasing, IsPermutation}
use Rattle.std.specs.Ordering.{is_lt}
use Rattle.lists.specs.Distinct.{AreDistinct}
use Rattle.lists.proofs.Entries.{Contains-head, Contains-later, Contains-cases, Contains-between, Contains-splits}
use Rattle.lists.proofs.Distinct.{distinct_within, distinct_without, places_apart}
use Rattle.lists.proofs.Pairs.{pair_cmp, pair_total, no_later}
use Rattle.graph_model.specs.Dumps.{EdgesRise}

-- ---- edges

-- of two edges the first has the lesser child, or the same child and no greater parent
abbrev pub IsNoLater : ℕ × ℕ → ℕ × ℕ → Type 0
IsNoLater a b = (a.1 < b.1) ⊎ ((a.1 ≡ b.1) × (a.0 ≤ b.0))

-- no edge stands behind one that is to follow it
abbrev NoneFalls : List (ℕ × ℕ) → Type 0
NoneFalls edges = (i j : ℕ) (d : ℕ × ℕ) → i < j → j < length edges → IsNoLater (slice_index_or edges i d) (slice_index_or edges j d)

abbrev pub ends : ℕ × ℕ → ℕ × ℕ
ends edge = (edge.1, edge.0)

pub none_falls : (edges : List (ℕ × ℕ)) → IsSortedByKey ends pair_cmp edges → NoneFalls edges
none_falls edges sorted i j d before below =
    no_later (slice_index_or edges i d).1 (slice_index_or edges j d).1 (slice_index_or edges i d).0 (slice_index_or edges j d).0
    (sorted_far (λ x y. is_lt (pair_cmp (ends x) (ends y))) (ranks_by pair_total ends) edges sorted i j d (omega arith) below)

-- of two different edges that don't fall the first is before the second
strictly : (a b : ℕ × ℕ) → IsNoLater a b → (a ≡ b → ⊥) → (a.1 < b.1) ⊎ ((a.1 ≡ b.1) × (a.0 < b.0))
strictly a b (inl low) other = inl low
strictly a b (inr (same, low)) other = elim (cases_eq a.0 b.0) [
  | inl equal ↦ absurd (other (λ i. (equal i, same i)))
  | inr apart ↦ inr (same, omega (arith, low, apart))
]

pub edges_rise : (edges : List (ℕ × ℕ)) → NoneFalls edges → AreDistinct edges → EdgesRise edges
edges_rise edges falls once a b (front, rest, is, (k, below, at)) =
    let whole : List (ℕ × ℕ) = front ++ b ∷ rest in
    let long : length whole ≡ length front + suc (length rest) = length-append front (b ∷ rest) in
    let first : slice_index_or edges k a ≡ a =
    ap (λ (es : List (ℕ × ℕ)). slice_index_or es k a) is ∙ get_or_append_left front (b ∷ rest) a k below ∙ at in
    let second : slice_index_or edges (length front) a ≡ b =
    ap (λ (es : List (ℕ × ℕ)). slice_index_or es (length front) a) is ∙ get_or-append_seam front b rest a in
    let there : length front < length edges = omega (arith, ap length is, long) in
    strictly a b
    (subst (λ (y : ℕ × ℕ). IsNoLater a y) second (subst (λ (x : ℕ × ℕ). IsNoLater x (slice_index_or edges (length front) a)) first (falls k (length front) a below there)))
    (λ same. places_apart edges k (length front) a once below there (first ∙ same ∙ sym second))

-- ---- entries that moved

-- a list with the entries of another, in which none stands twice, and no longer than that
told_once : {A : Type 0} (xs ys : List A) → AreDistinct xs → length ys ≤ length xs → ((x : A) → Contains xs x → Contains ys x)
    → ((x : A) → Contains ys x → Contains xs x) → AreDistinct ys
told_once xs [] once short there back = tt
told_once {A} xs (y ∷ ys) once short there back =
    let alone : Contains ys y → ⊥ = λ again.
    let few = distinct_within (λ _. 0) xs ys once (λ x here. elim (Contains-cases y x ys (there x here)) [
      | inl same ↦ subst (λ (z : A). Contains ys z) same again
      | inr later ↦ later
    ]) in omega (arith, few.0, short) in
    let cut = Contains-splits xs y (back y (Contains-head y ys)) in
    let split : AreDistinct (cut.0 ++ y ∷ cut.1) = subst AreDistinct cut.2 once in
    let others = distinct_without cut.0 cut.1 y split in
    let long : length xs ≡ length cut.0 + suc (length cut.1) = ap length cut.2 ∙ length-append cut.0 (y ∷ cut.1) in
    let less : length (cut.0 ++ cut.1) ≡ length cut.0 + length cut.1 = length-append cut.0 cut.1 in (
      alone,
      told_once (cut.0 ++ cut.1) ys others.0 (omega (arith, short, long, less))
          (λ x here. elim (Contains-cases y x ys (there x (subst (λ (zs : List A). Contains zs x) (sym cut.2) (elim (Contains-append_cases cut.0 cut.1 x here) [
            | inl left ↦ Contains-append_left cut.0 (y ∷ cut.1) x left
            | inr right ↦ Contains-append_right cut.0 (y ∷ cut.1) x (Contains-later y x cut.1 right)
          ])))) [
            | inl same ↦ absurd (others.1 (subst (λ (z : A). Contains (cut.0 ++ cut.1) z) (sym same) here))
            | inr later ↦ later
          ])
          (λ x here. elim (Contains-between cut.0 cut.1 y x (subst (λ (zs : List A). Contains zs x) cut.2 (back x (Contains-later y x ys here)))) [
            | inl same ↦ absurd (alone (subst (λ (z : A). Contains ys z) (sym same) here))
            | inr among ↦ among
          ]),
    )

-- entries that moved stand once still
pub distinct_moved : {A : Type 0} (xs ys : List A) → IsPermutation xs ys → AreDistinct xs → AreDistinct ys
distinct_moved xs ys moved once =
    let long : length ys ≡ length xs = length_permutation xs ys moved in
    told_once xs ys once (omega (arith, long)) (λ x here. Contains-permutation xs ys x moved here)
    (λ x here. Contains-permutation ys xs x (IsPermutation-sym xs ys moved) here)

-- ---- numbers

-- numbers of entries that don't fall, and differ, rise
pub numbers_rise : {A : Type 0} (f : A → ℕ) (xs : List A) → IsNonDecreasingBy f xs → AreDistinct (map f xs) → IsStrictlyIncreasing (map f xs)
numbers_rise f [] falls once k below = omega (arith, below)
numbers_rise {A} f (x ∷ xs) falls once k below =
    let all : List A = x ∷ xs in
    let long : length (map f all) ≡ length all = length-map all f in
    let first : get_or (map f all) k 0 ≡ f (get_or all k x) = get_or-map f all k x 0 (omega (arith, below, long)) in
    let second : get_or (map f all) (k + 1) 0 ≡ f (get_or all (k + 1) x) = get_or-map f all (k + 1) x 0 (omega (arith, below, long)) in
    let low : f (get_or all k x) ≤ f (get_or all (k + 1) x) = falls k (k + 1) x (omega arith) (omega (arith, below, long)) in
    elim (cases_eq (get_or (map f all) k 0) (get_or (map f all) (k + 1) 0)) [
      | inl same ↦ absurd (places_apart (map f all) k (k + 1) 0 once (omega arith) below same)
      | inr apart ↦ omega (arith, low, first, second, apart)
    ]
