-- Whether a list has an entry can be told, where equality can.
use Rattle.std.proofs.Common.{◌≡◌, ℕ, List, [], ◌∷◌, Contains, inl, inr, ◌⊎◌, ap, subst}
use Rattle.std.proofs.lemmas.Bool.{cases_eq}
use Rattle.lists.proofs.Entries.{Contains-head, Contains-later, Contains-cases, none_in_empty}

pub told_in : {A : Type 0} → ((x y : A) → (x ≡ y) ⊎ (x ≡ y → ⊥)) → (xs : List A) (x : A) → Contains xs x ⊎ (Contains xs x → ⊥)
told_in decide [] x = inr (none_in_empty x)
told_in decide (y ∷ xs) x = elim (decide y x) [
  | inl same ↦ inl (subst (Contains (y ∷ xs)) same (Contains-head y xs))
  | inr other ↦ elim (told_in decide xs x) [
    | inl later ↦ inl (Contains-later y x xs later)
    | inr none ↦ inr (λ here. elim (Contains-cases y x xs here) [ inl same ↦ other same | inr later ↦ none later ])
  ]
]

pub told_number : (xs : List ℕ) (n : ℕ) → Contains xs n ⊎ (Contains xs n → ⊥)
told_number = told_in cases_eq

-- two numbers are two others or not
pub cases_two : (a b c d : ℕ) → ((a ≡ c) × (b ≡ d)) ⊎ ((a ≡ c) × (b ≡ d) → ⊥)
cases_two a b c d = elim (cases_eq a c) [
  | inl first ↦ elim (cases_eq b d) [ inl second ↦ inl (first, second) | inr other ↦ inr (λ both. other both.1) ]
  | inr other ↦ inr (λ both. other both.0)
]

pub cases_pair : (p q : ℕ × ℕ) → (p ≡ q) ⊎ (p ≡ q → ⊥)
cases_pair p q = elim (cases_two p.0 p.1 q.0 q.1) [
  | inl both ↦ inl (λ i. (both.0 i, both.1 i))
  | inr other ↦ inr (λ e. other (ap (λ (r : ℕ × ℕ). r.0) e, ap (λ (r : ℕ × ℕ). r.1) e))
]
