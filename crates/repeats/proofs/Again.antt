-- Names that stand again, by their positions.
use Rattle.std.proofs.Common.{◌≡◌, ◌≢◌, ◌⊎◌, ℕ, ◌+◌, ◌<◌, ◌≤◌, true, false, List, [], ◌∷◌, ◌++◌, length, length-append, get_or, add-one, slice_index, take, drop, drop-cons, Contains, inl, inr, refl, sym, ap, ◌∙◌, subst, true≢false, arith}
use Rattle.std.proofs.lemmas.Bool.{cases_eq, cases_lt}
use Rattle.std.proofs.lemmas.List.{get_or_default, get_or-take, get_or_append_left, length-take-le, take-append-drop}
use Rattle.lists.specs.Distinct.{AreDistinct}
use Rattle.lists.proofs.Distinct.{distinct_from_places}
use Rattle.graph_model.specs.Refusals.{IsFirst, StandsTwice}
use Rattle.repeats.specs.Places.{NoneAgain, StandsWithin}

-- one position more
pub within_more : (ids : List ℕ) (from at id : ℕ) → from ≤ at → (id ≡ slice_index ids at) ⊎ StandsWithin ids from at id → StandsWithin ids from (at + 1) id
within_more ids from at id low (inl same) = (at, low, omega arith, sym same)
within_more ids from at id low (inr (i, a, b, is)) = (i, a, omega arith, is)

-- one name more that doesn't stand earlier
pub none_more : (ids : List ℕ) (from to at : ℕ) → NoneAgain ids from to at → (StandsWithin ids from at (slice_index ids at) → ⊥) → NoneAgain ids from to (at + 1)
none_more ids from to at none new i j a b less below e =
    elim (cases_eq j at) [
      | inl same ↦ new (i, a, omega arith, e ∙ ap (slice_index ids) same)
      | inr other ↦ none i j a b less (omega arith) e
    ]

-- names behind some positions that don't stand there
pub none_behind : (ids : List ℕ) (from to bound : ℕ) → NoneAgain ids from to to
    → ((j : ℕ) → to ≤ j → j < bound → StandsWithin ids from to (slice_index ids j) → ⊥) → NoneAgain ids from to bound
none_behind ids from to bound none new i j a b less below e =
    elim (cases_lt j to) [ inl early ↦ none i j a b less early e | inr late ↦ new j late below (i, a, b, e) ]

-- a list of which no name stands again
pub none_at_all : (ids : List ℕ) (to : ℕ) → length ids ≤ to → NoneAgain ids 0 to (length ids) → AreDistinct ids
none_at_all ids to all none = distinct_from_places ids (λ i j d less in' e.
    none i j (omega arith) (omega arith) less in' (get_or_default ids i 0 d (omega arith) ∙ e ∙ get_or_default ids j d 0 in'))

-- ---- the first name that stands again

cut_at : (ids : List ℕ) (at : ℕ) → at < length ids → ids ≡ take at ids ++ slice_index ids at ∷ drop (at + 1) ids
cut_at ids at low = sym (take-append-drop at ids) ∙ ap (λ zs. take at ids ++ zs) (rw add-one (drop-cons ids at 0 low))

within_front : (ids : List ℕ) (at id : ℕ) → at ≤ length ids → StandsWithin ids 0 at id → Contains (take at ids) id
within_front ids at id low (i, a, b, is) =
    let in' : i < length (take at ids) = omega (arith, length-take-le at ids low) in
    (i, in', get_or-take at ids i id b ∙ get_or_default ids i id 0 (omega arith) ∙ is)

seam : (front rest : List ℕ) (x : ℕ) → get_or (front ++ x ∷ rest) (length front) 0 ≡ x
seam [] rest x = refl
seam (y ∷ front) rest x = seam front rest x

-- a name that stands in a front of a list, and behind that front
stands_again : (ids front rest : List ℕ) (at other : ℕ) → at ≤ length ids → take at ids ≡ front ++ other ∷ rest → Contains front other
    → (i : ℕ) × (i < length front) × (length front < at) × (slice_index ids i ≡ slice_index ids (length front))
stands_again ids front rest at other low cut (i, in', is) =
    let size : length front + length (other ∷ rest) ≡ at = sym (length-append front (other ∷ rest)) ∙ sym (ap length cut) ∙ length-take-le at ids low in
    let j = length front in
    let first : slice_index ids i ≡ other =
    sym (get_or-take at ids i 0 (omega arith)) ∙ ap (λ zs. get_or zs i 0) cut ∙ get_or_append_left front (other ∷ rest) 0 i in'
    ∙ get_or_default front i 0 other in' ∙ is in
    let second : slice_index ids j ≡ other =
    sym (get_or-take at ids j 0 (omega arith)) ∙ ap (λ zs. get_or zs j 0) cut ∙ seam front rest other in
    (i, in', omega arith, first ∙ sym second)

pub first_again : (ids : List ℕ) (to at : ℕ) → at < length ids → at ≤ to → NoneAgain ids 0 to at → StandsWithin ids 0 at (slice_index ids at)
    → IsFirst StandsTwice ids (slice_index ids at)
first_again ids to at low all none again = record {
  before = take at ids;
  after = drop (at + 1) ids;
  cut = cut_at ids at low;
  has = within_front ids at (slice_index ids at) (omega arith) again;
  earlier = λ front rest other cut here.
      let twice = stands_again ids front rest at other (omega arith) cut here in
      none twice.0 (length front) (omega arith) (omega (arith, twice.1, twice.2)) twice.1 twice.2 twice.3;
}
