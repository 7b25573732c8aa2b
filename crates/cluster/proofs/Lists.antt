-- Lists of the names of places.
use Rattle.std.proofs.Common.{◌≡◌, ℕ, ◌+◌, ◌-◌, ◌<◌, ◌≤◌, nat_eq, List, [], ◌∷◌, ◌++◌, map, length, get_or, slice_index, Contains, inl, inr, ◌↔◌, sym, ap, ◌∙◌, subst, arith, ne_eqb, append-nil, append_assoc, length-append}
use Rattle.std.proofs.lemmas.Bool.{cases_order}
use Rattle.std.proofs.lemmas.List.{get_or_default, length-map, map_push}
use Rattle.std.proofs.lemmas.List.Elements.{Contains-get_or}
use Rattle.std.proofs.lemmas.List.Sorted.{Contains-permutation, IsPermutation-sym}
use Rattle.std.proofs.lemmas.Map.Keys.{IsDistinct-from_apart, IsDistinct-IsPermutation, IsStrictlyIncreasing-from_distinct}
use Rattle.std.specs.List.{IsDistinct}
use Rattle.std.specs.List.Sorted.{IsPermutation, IsNonDecreasing}
use Rattle.std.specs.Cmp.{nat_eq_equiv}
use Rattle.std.specs.Ordering.{nat_cmp}
use Rattle.std.specs.FinSet as set
use Rattle.lists.proofs.Distinct.{one_place, distinct_map}
use Rattle.lists.specs.Distinct.{AreDistinct}
use Rattle.lists.proofs.Entries.{Contains-map, map-Contains}
use Rattle.lists.proofs.Rising.{rising_at_least, distinct_rising}
use Rattle.lists.specs.Rising.{IsRising}
use Rattle.bitset.specs.Places.{places, IsWithin}
use Rattle.bitset.specs.Sets.{IsRising-places, Contains-places, places-Contains, places-here}
use Rattle.graphs.specs.Graphs.{Lists}
use Rattle.graphs.specs.Unions.{PutsBehind}
use Rattle.cluster.specs.Changes.{IsChosen}

once_distinct : (xs : List ℕ) → AreDistinct xs → IsDistinct nat_eq xs
once_distinct xs once = IsDistinct-from_apart nat_eq xs (λ i j d before below. ne_eqb (get_or xs i d) (get_or xs j d)
    (λ same. let is : i ≡ j =
    one_place xs i j 0 once (omega arith) below (get_or_default xs i 0 d (omega arith) ∙ same ∙ get_or_default xs j d 0 below) in omega arith))

module _ (n : ℕ) (names : List ℕ) (chosen : set.FinSet nat_cmp) (within : IsWithin (length names) chosen) where
  place_within : (p : ℕ) → Contains (places n chosen) p → p < length names
  place_within p here = within p (places-Contains n chosen p here).1

  pub chosen_once : AreDistinct names → AreDistinct (map (slice_index names) (places n chosen))
  chosen_once once = distinct_map (slice_index names) (places n chosen) (distinct_rising (places n chosen) (IsRising-places n chosen))
      (λ p q here there. one_place names p q 0 once (place_within p here) (place_within q there))

  -- the names of the places of a set are the names that it chooses
  pub names_chosen : IsWithin n chosen → (id : ℕ) → Contains (map (slice_index names) (places n chosen)) id ↔ IsChosen names chosen id
  names_chosen bound id = (
    λ here. let at = map-Contains (slice_index names) (places n chosen) id here in (at.0, place_within at.0 at.1, (places-Contains n chosen at.0 at.1).1, at.2),
    λ at. subst (Contains (map (slice_index names) (places n chosen))) at.3
        (Contains-map (slice_index names) (places n chosen) at.0 (Contains-places n chosen at.0 (bound at.0 at.2) at.2)),
  )

  -- the names of the places of a set, behind a list
  pub chosen_put : IsWithin n chosen → AreDistinct names → (before ids : List ℕ) → ids ≡ before ++ map (slice_index names) (places n chosen)
      → PutsBehind (IsChosen names chosen) before ids
  chosen_put bound once before ids is = record {
    more = map (slice_index names) (places n chosen);
    behind = is;
    once = chosen_once once;
    exact = names_chosen bound;
  }

  -- the next place of a walk over the set
  pub next_within : (ys ws zs : List ℕ) (p : ℕ) → ys ++ ws ≡ places n chosen → ws ≡ p ∷ zs → p < length names
  next_within ys ws zs p split is = within p (places-here n chosen ys zs p (sym split ∙ ap (λ xs. ys ++ xs) is)).1

-- ---- room for the names of a set

-- so many distinct numbers below a bound are at most the bound
once_few : (xs : List ℕ) (n : ℕ) → IsRising xs → ((p : ℕ) → Contains xs p → p < n) → length xs ≤ n
once_few xs n rising within = elim (cases_order (length xs) 0) [
  | inl none ↦ omega arith
  | inr some ↦ elim some [
    | inl below ↦ omega arith
    | inr many ↦
        let last : slice_index xs (length xs - 1) < n = within (slice_index xs (length xs - 1)) (Contains-get_or xs (length xs - 1) 0 (omega arith)) in
        let high : length xs - 1 ≤ slice_index xs (length xs - 1) = rising_at_least xs rising (length xs - 1) (omega arith) in omega arith
  ]
]

pub chosen_few : (n : ℕ) (names : List ℕ) (chosen : set.FinSet nat_cmp) → IsWithin (length names) chosen → length (places n chosen) ≤ length names
chosen_few n names chosen within = once_few (places n chosen) (length names) (IsRising-places n chosen) (place_within n names chosen within)

-- one more name was pushed, and there was room for it
pub room_left : (n : ℕ) (names : List ℕ) (chosen : set.FinSet nat_cmp) (ys ws zs : List ℕ) (p : ℕ) (before ids : List ℕ) (room free : ℕ)
    → IsWithin (length names) chosen → ys ++ ws ≡ places n chosen → ws ≡ p ∷ zs
    → ids ≡ before ++ map (slice_index names) ys → length ids + room ≡ length before + free → length names ≤ free → 0 < room
room_left n names chosen ys ws zs p before ids room free within split is copied same enough =
    let few : length (places n chosen) ≤ length names = chosen_few n names chosen within in
    let parts : length (places n chosen) ≡ length ys + length (p ∷ zs) = ap length (sym split ∙ ap (λ xs. ys ++ xs) is) ∙ length-append ys (p ∷ zs) in
    let held : length ids ≡ length before + length (map (slice_index names) ys) = ap length copied ∙ length-append before (map (slice_index names) ys) in
    let named : length (map (slice_index names) ys) ≡ length ys = length-map ys (slice_index names) in
    omega arith

pub copied_more : (names before ys ids : List ℕ) (p : ℕ) → ids ≡ before ++ map (slice_index names) ys
    → ids ++ slice_index names p ∷ [] ≡ before ++ map (slice_index names) (ys ++ p ∷ [])
copied_more names before ys ids p copied = ap (λ xs. xs ++ slice_index names p ∷ []) copied
    ∙ append_assoc before (map (slice_index names) ys) (slice_index names p ∷ []) ∙ ap (λ xs. before ++ xs) (sym (map_push (slice_index names) ys p))

-- what was put into an empty list, and sorted
pub put_listed : (P : ℕ → Type 0) (before ids sorted : List ℕ) → before ≡ [] → PutsBehind P before ids
    → IsPermutation ids sorted → IsNonDecreasing sorted → Lists P sorted
put_listed P before ids sorted none puts moved rising =
    let is : ids ≡ puts.more = puts.behind ∙ ap (λ xs. xs ++ puts.more) none in
    record {
      rising = IsStrictlyIncreasing-from_distinct sorted rising
          (IsDistinct-IsPermutation nat_eq nat_eq_equiv.symm ids sorted moved (subst (IsDistinct nat_eq) (sym is) (once_distinct puts.more puts.once)));
      exact = λ id. (
        λ here. (puts.exact id).0 (subst (λ xs. Contains xs id) is (Contains-permutation sorted ids id (IsPermutation-sym ids sorted moved) here)),
        λ holds. Contains-permutation ids sorted id moved (subst (λ xs. Contains xs id) (sym is) ((puts.exact id).1 holds)),
      );
    }

pub split_more : (ys ws zs all : List ℕ) (p : ℕ) → ys ++ ws ≡ all → ws ≡ p ∷ zs → (ys ++ p ∷ []) ++ zs ≡ all
split_more ys ws zs all p split is = append_assoc ys (p ∷ []) zs ∙ ap (λ xs. ys ++ xs) (sym is) ∙ split

pub split_all : (ys ws all : List ℕ) → ys ++ ws ≡ all → ws ≡ [] → ys ≡ all
split_all ys ws all split is = sym (append-nil ys) ∙ ap (λ xs. ys ++ xs) (sym is) ∙ split
