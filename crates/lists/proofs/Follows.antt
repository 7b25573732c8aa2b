-- Lists in which each entry is before all that follow it: where nothing is before what is before it, their entries tell them.
use Rattle.std.proofs.Common.{◌≡◌, List, [], ◌∷◌, Contains, inl, inr, refl, sym, ◌∙◌, subst}
use Rattle.lists.proofs.Entries.{Contains-head, Contains-later, Contains-cases, none_in_empty}

abbrev pub Follow : {A : Type 0} → (A → A → Type 0) → List A → Type 0
Follow Before [] = Unit {0}
Follow {A} Before (x ∷ xs) = ((y : A) → Contains xs y → Before x y) × Follow Before xs

module _ {A : Type 0} (Before : A → A → Type 0) (apart : (x y : A) → Before x y → Before y x → ⊥) where
  first_same : (x y : A) (xs ys : List A) → Follow Before (x ∷ xs) → Follow Before (y ∷ ys) → Contains (y ∷ ys) x → Contains (x ∷ xs) y → x ≡ y
  first_same x y xs ys first second x_in y_in = elim (Contains-cases y x ys x_in) [
    | inl same ↦ sym same
    | inr later ↦ elim (Contains-cases x y xs y_in) [
      | inl same ↦ same
      | inr behind ↦ absurd (apart x y (first.0 y behind) (second.0 x later))
    ]
  ]

  rest_inside : (x y : A) (xs ys : List A) → Follow Before (x ∷ xs) → x ≡ y
      → ((z : A) → Contains (x ∷ xs) z → Contains (y ∷ ys) z) → (z : A) → Contains xs z → Contains ys z
  rest_inside x y xs ys follow same inside z here = elim (Contains-cases y z ys (inside z (Contains-later x z xs here))) [
    | inl first ↦ absurd (let itself : Before x x = follow.0 x (subst (Contains xs) (sym (same ∙ first)) here) in apart x x itself itself)
    | inr later ↦ later
  ]

  pub follow_once : (xs ys : List A) → Follow Before xs → Follow Before ys
      → ((z : A) → Contains xs z → Contains ys z) → ((z : A) → Contains ys z → Contains xs z) → xs ≡ ys
  follow_once [] [] first second there back = refl
  follow_once [] (y ∷ ys) first second there back = absurd (none_in_empty y (back y (Contains-head y ys)))
  follow_once (x ∷ xs) [] first second there back = absurd (none_in_empty x (there x (Contains-head x xs)))
  follow_once (x ∷ xs) (y ∷ ys) first second there back =
      let same : x ≡ y = first_same x y xs ys first second (there x (Contains-head x xs)) (back y (Contains-head y ys)) in
      let rest : xs ≡ ys =
      follow_once xs ys first.1 second.1 (rest_inside x y xs ys first same there) (rest_inside y x ys xs second (sym same) back) in
      λ i. same i ∷ rest i
