-- Lists that are made of the lists of entries, one behind the other.
use Rattle.std.proofs.Common.{◌≡◌, List, [], ◌∷◌, Contains, flat_map, inl, inr, sym, ◌∙◌, subst}
use Rattle.std.proofs.lemmas.List.Elements.{Contains-append_left, Contains-append_right, Contains-append_cases}
use Rattle.lists.specs.Distinct.{AreDistinct}
use Rattle.lists.proofs.Distinct.{distinct_joined, distinct_apart, distinct-append_left, distinct-append_right}
use Rattle.lists.proofs.Entries.{Contains-head, Contains-later, Contains-cases, none_in_empty}

module _ {A B : Type 0} (f : A → List B) where
  pub flat_has : (xs : List A) (x : A) (y : B) → Contains xs x → Contains (f x) y → Contains (flat_map f xs) y
  flat_has [] x y h there = absurd (none_in_empty x h)
  flat_has (z ∷ zs) x y h there = elim (Contains-cases z x zs h) [
    | inl same ↦ Contains-append_left (f z) (flat_map f zs) y (subst (λ (w : A). Contains (f w) y) (sym same) there)
    | inr later ↦ Contains-append_right (f z) (flat_map f zs) y (flat_has zs x y later there)
  ]

  pub flat_of : (xs : List A) (y : B) → Contains (flat_map f xs) y → (x : A) × Contains xs x × Contains (f x) y
  flat_of [] y h = absurd (none_in_empty y h)
  flat_of (z ∷ zs) y h = elim (Contains-append_cases (f z) (flat_map f zs) y h) [
    | inl here ↦ (z, Contains-head z zs, here)
    | inr later ↦ let found = flat_of zs y later in (found.0, Contains-later z found.0 zs found.1, found.2)
  ]

  pub flat_part_once : (xs : List A) (x : A) → AreDistinct (flat_map f xs) → Contains xs x → AreDistinct (f x)
  flat_part_once [] x once h = absurd (none_in_empty x h)
  flat_part_once (y ∷ ys) x once h = elim (Contains-cases y x ys h) [
    | inl same ↦ subst (λ (z : A). AreDistinct (f z)) same (distinct-append_left (f y) (flat_map f ys) once)
    | inr later ↦ flat_part_once ys x (distinct-append_right (f y) (flat_map f ys) once) later
  ]

  -- what stands once is of one entry
  pub one_holder : (xs : List A) (x y : A) (id : B) → AreDistinct (flat_map f xs) → Contains xs x → Contains xs y → Contains (f x) id
      → Contains (f y) id → x ≡ y
  one_holder [] x y id once h k here there = absurd (none_in_empty x h)
  one_holder (z ∷ zs) x y id once h k here there = elim (Contains-cases z x zs h) [
    | inl first ↦ elim (Contains-cases z y zs k) [
      | inl second ↦ sym first ∙ second
      | inr later ↦
          absurd (distinct_apart (f z) (flat_map f zs) id once (subst (λ (w : A). Contains (f w) id) (sym first) here) (flat_has zs y id later there))
    ]
    | inr early ↦ elim (Contains-cases z y zs k) [
      | inl second ↦
          absurd (distinct_apart (f z) (flat_map f zs) id once (subst (λ (w : A). Contains (f w) id) (sym second) there) (flat_has zs x id early here))
      | inr later ↦ one_holder zs x y id (distinct-append_right (f z) (flat_map f zs) once) early later here there
    ]
  ]

  pub flat_once : (xs : List A) → AreDistinct xs → ((x : A) → Contains xs x → AreDistinct (f x))
      → ((x y : A) (id : B) → Contains xs x → Contains xs y → Contains (f x) id → Contains (f y) id → x ≡ y) → AreDistinct (flat_map f xs)
  flat_once [] once each one = tt
  flat_once (x ∷ xs) once each one =
      distinct_joined (f x) (flat_map f xs) (each x (Contains-head x xs))
      (flat_once xs once.1 (λ y h. each y (Contains-later x y xs h)) (λ y z id h k. one y z id (Contains-later x y xs h) (Contains-later x z xs k)))
      (λ id here there.
      let found = flat_of xs id there in
      once.0 (subst (Contains xs) (sym (one x found.0 id (Contains-head x xs) (Contains-later x found.0 xs found.1) here found.2)) found.1))
