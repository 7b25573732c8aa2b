-- One cluster more under a number of its own.
use Rattle.std.proofs.Common.{zero, suc, ◌≡◌, ℕ, ◌+◌, ◌<◌, ◌≤◌, List, [], ◌∷◌, ◌++◌, length, get_or, None, Some, is_some, IsSome, Contains, inl, inr, ◌⊎◌, refl, sym, ap, ◌∙◌, subst, arith}
use Rattle.std.proofs.lemmas.Bool.{cases_lt}
use Rattle.std.proofs.lemmas.List.{length_push, get_or_append_left, get_or_push, get_or_default, map-id}
use Rattle.std.proofs.lemmas.List.Elements.{Contains-append_left, Contains-push, Contains-push_cases, Contains-get_or}
use Rattle.std.proofs.lemmas.Option.{none-some, slice_get_cases, slice_get_within}
use Rattle.std.specs.List.{slice_get, slice_index}
use Rattle.lists.proofs.Distinct.{distinct_push}
use Rattle.lists.proofs.Told.{told_number}
use Rattle.lists.proofs.Entries.{none_in_empty}
use Rattle.cluster_store.specs.Stores.{Stored}
use Rattle.cluster_store.specs.Kept.{Slots, at}
use Rattle.cluster_store.specs.Slots.{AreStored, AreOut, AddsTo, AddsOne}
use Rattle.cluster_store.proofs.Missing.{none_there}

pub adds_none : (old : Slots) (numbers : List ℕ) → numbers ≡ [] → AddsTo [] numbers old old
adds_none old numbers none = subst (λ (ns : List ℕ). AddsTo [] ns old old) (sym none) (record {
  count = refl;
  once = tt;
  free = λ n here. absurd (none_in_empty n here);
  stand = λ i s is. absurd (none-some s is);
  others = λ n _. refl;
})

module _ (added : List Stored) (numbers : List ℕ) (old cur : Slots) (adds : AddsTo added numbers old cur) where
  pub adds_there : (n : ℕ) → Contains numbers n → IsSome (at cur n)
  adds_there n here = by (slice_get_cases added here.0).1
    where
      by : ((s : Stored) × (here.0 < length added) × (slice_get added here.0 ≡ Some s) × (get_or added here.0 s ≡ s))
          ⊎ ((length added ≤ here.0) × (slice_get added here.0 ≡ None))
          → IsSome (at cur n)
      by (inl some) = ap is_some (ap (at cur) (sym (get_or_default numbers here.0 0 n here.1 ∙ here.2)) ∙ adds.stand here.0 some.0 some.2)
      by (inr none) = absurd (omega (arith, adds.count, here.1, none.0))

  pub adds_stored : AreStored numbers cur
  adds_stored = record { once = adds.once; there = adds_there }

  pub adds_same : (numbers' : List ℕ) (cur' : Slots) → numbers' ≡ numbers → ((m : ℕ) → at cur' m ≡ at cur m) → AddsTo added numbers' old cur'
  adds_same numbers' cur' same alike = subst (λ (ns : List ℕ). AddsTo added ns old cur') (sym same) (record {
    count = adds.count;
    once = adds.once;
    free = adds.free;
    stand = λ i s is. alike (slice_index numbers i) ∙ adds.stand i s is;
    others = λ n none. alike n ∙ adds.others n none;
  })

  -- taken out again
  pub adds_undone : (new : Slots) → AreOut numbers cur new → (n : ℕ) → at new n ≡ at old n
  adds_undone new out n = elim (told_number numbers n) [
    | inl here ↦ out.each n here ∙ sym (adds.free n here)
    | inr none ↦ out.others n (λ here. none (subst (λ (ns : List ℕ). Contains ns n) (map-id numbers) here)) ∙ adds.others n none
  ]

  module _ (s : Stored) (after : List ℕ) (new : Slots) (one : AddsOne s numbers after cur new) where
    fresh_number : Contains numbers one.number → ⊥
    fresh_number here = none_there one.free (adds_there one.number here)

    low_stands : (i : ℕ) (t : Stored) → i < length added → slice_get added i ≡ Some t → at new (slice_index (numbers ++ one.number ∷ []) i) ≡ Some t
    low_stands i t below is =
        let there : i < length numbers = omega (arith, adds.count) in
        ap (at new) (get_or_append_left numbers (one.number ∷ []) 0 i there)
        ∙ one.writes.others (slice_index numbers i) (λ e. fresh_number (subst (Contains numbers) e (Contains-get_or numbers i 0 there)))
        ∙ adds.stand i t is

    front_get : (xs : List Stored) (i : ℕ) → i < length xs → slice_get (xs ++ s ∷ []) i ≡ slice_get xs i
    front_get [] i below = absurd (omega arith)
    front_get (x ∷ xs) zero below = refl
    front_get (x ∷ xs) (suc i) below = front_get xs i (omega arith)

    last_get : (xs : List Stored) (i : ℕ) → i ≡ length xs → slice_get (xs ++ s ∷ []) i ≡ Some s
    last_get [] i is = ap (slice_get (s ∷ [])) is
    last_get (x ∷ xs) zero is = absurd (omega (arith, is))
    last_get (x ∷ xs) (suc i) is = last_get xs i (omega (arith, is))

    pub adds_more : AddsTo (added ++ s ∷ []) after old new
    adds_more = subst (λ (ns : List ℕ). AddsTo (added ++ s ∷ []) ns old new) (sym one.listed) (record {
      count = length_push numbers one.number ∙ ap (λ k. k + 1) adds.count ∙ sym (length_push added s);
      once = distinct_push numbers one.number adds.once fresh_number;
      free = λ m here. elim (Contains-push_cases numbers one.number m here) [
        | inl old_one ↦ adds.free m old_one
        | inr same ↦ ap (at old) (sym same) ∙ sym (adds.others one.number fresh_number) ∙ one.free
      ];
      stand = λ i t is. elim (cases_lt i (length added)) [
        | inl low ↦ low_stands i t low (sym (front_get added i low) ∙ is)
        | inr high ↦
            let within = slice_get_within (added ++ s ∷ []) i t is in
            let last : i ≡ length added = omega (arith, within, length_push added s) in
            ap (at new) (get_or_push numbers one.number 0 i (adds.count ∙ sym last)) ∙ one.writes.changed ∙ sym (last_get added i last) ∙ is
      ];
      others = λ m none.
          one.writes.others m (λ e. none (subst (Contains (numbers ++ one.number ∷ [])) (sym e) (Contains-push numbers one.number)))
          ∙ adds.others m (λ here. none (Contains-append_left numbers (one.number ∷ []) m here));
    })
