-- A relation that holds of any two of a list holds of any two of the list in another order.
use Rattle.std.proofs.Common.{◌≡◌, ◌≢◌, ℕ, ◌<◌, cond, nat_eq, List, length, get_or, inl, inr, ◌⊎◌, refl, sym, ap, ◌∙◌, subst, subst₂, arith, eq-eqb, ne_eqb}
use Rattle.std.specs.List.{AllPairs, swap}
use Rattle.std.specs.List.Sorted.{IsPermutation}
use Rattle.std.proofs.lemmas.Bool.{cases_eq, cases_lt}
use Rattle.std.proofs.lemmas.List.Edits.{swapped_from_swap, length-swap}
use Rattle.std.proofs.lemmas.List.Sorted.{IsPermutation-keeps}

-- where the entry of a place stood before places a and b were swapped
turned : ℕ → ℕ → ℕ → ℕ
turned a b k = cond (nat_eq k a) b (cond (nat_eq k b) a k)

turned_first : (a b : ℕ) → turned a b a ≡ b
unfolding turned
turned_first a b = ap (λ t. cond t b (cond (nat_eq a b) a a)) (eq-eqb a a refl)

turned_second : (a b : ℕ) → turned a b b ≡ a
unfolding turned
turned_second a b = elim (cases_eq b a) [
  | inl same ↦ ap (λ t. cond t b (cond (nat_eq b b) a b)) (eq-eqb b a same) ∙ same
  | inr other ↦ ap (λ t. cond t b (cond (nat_eq b b) a b)) (ne_eqb b a other) ∙ ap (λ t. cond t a b) (eq-eqb b b refl)
]

turned_other : (a b k : ℕ) → k ≢ a → k ≢ b → turned a b k ≡ k
unfolding turned
turned_other a b k first second =
    ap (λ t. cond t b (cond (nat_eq k b) a k)) (ne_eqb k a first) ∙ ap (λ t. cond t a k) (ne_eqb k b second)

-- a place is the first, the second, or another
which : (a b k : ℕ) → (k ≡ a) ⊎ ((k ≡ b) ⊎ ((k ≢ a) × (k ≢ b)))
which a b k = elim (cases_eq k a) [
  | inl same ↦ inl same
  | inr first ↦ elim (cases_eq k b) [ inl same ↦ inr (inl same) | inr second ↦ inr (inr (first, second)) ]
]

turned_back : (a b k : ℕ) → turned a b (turned a b k) ≡ k
turned_back a b k = elim (which a b k) [
  | inl same ↦ ap (λ q. turned a b (turned a b q)) same ∙ ap (turned a b) (turned_first a b) ∙ turned_second a b ∙ sym same
  | inr (inl same) ↦ ap (λ q. turned a b (turned a b q)) same ∙ ap (turned a b) (turned_second a b) ∙ turned_first a b ∙ sym same
  | inr (inr other) ↦ ap (turned a b) (turned_other a b k other.0 other.1) ∙ turned_other a b k other.0 other.1
]

module _ {X : Type 0} (R : X → X → Type 0) (turn : (x y : X) → R x y → R y x) where
  any_two : (xs : List X) (i j : ℕ) (d : X) → AllPairs R xs → i ≢ j → i < length xs → j < length xs → R (get_or xs i d) (get_or xs j d)
  any_two xs i j d pairs apart one two = elim (cases_lt i j) [
    | inl less ↦ pairs i j d less two
    | inr more ↦ turn (get_or xs j d) (get_or xs i d) (pairs j i d (omega arith) one)
  ]

  module _ (xs : List X) (a b : ℕ) (a_low : a < length xs) (b_low : b < length xs) where
    turned_low : (k : ℕ) → k < length xs → turned a b k < length xs
    turned_low k low = elim (which a b k) [
      | inl same ↦ subst (λ q. q < length xs) (sym (ap (turned a b) same ∙ turned_first a b)) b_low
      | inr (inl same) ↦ subst (λ q. q < length xs) (sym (ap (turned a b) same ∙ turned_second a b)) a_low
      | inr (inr other) ↦ subst (λ q. q < length xs) (sym (turned_other a b k other.0 other.1)) low
    ]

    stood : (k : ℕ) (d : X) → get_or xs (turned a b k) d ≡ get_or (swap xs a b) k d
    stood k d =
        let swapped = swapped_from_swap xs (swap xs a b) a b d a_low b_low refl in
        let was : ℕ → X = λ q. get_or xs q d in
        let now : ℕ → X = λ q. get_or (swap xs a b) q d in
        elim (which a b k) [
          | inl same ↦ ap was (ap (turned a b) same ∙ turned_first a b) ∙ sym swapped.0 ∙ ap now (sym same)
          | inr (inl same) ↦ ap was (ap (turned a b) same ∙ turned_second a b) ∙ sym swapped.1 ∙ ap now (sym same)
          | inr (inr other) ↦ ap was (turned_other a b k other.0 other.1) ∙ sym (swapped.2 k other.0 other.1)
        ]

    all_pairs_swap : AllPairs R xs → AllPairs R (swap xs a b)
    all_pairs_swap pairs i j d before below =
        let two : j < length xs = omega (arith, length-swap xs a b) in
        let one : i < length xs = omega arith in
        let apart : turned a b i ≢ turned a b j = λ same. (
        let equal : i ≡ j = sym (turned_back a b i) ∙ ap (turned a b) same ∙ turned_back a b j in omega arith
        ) in
        subst₂ R (stood i d) (stood j d) (any_two xs (turned a b i) (turned a b j) d pairs apart (turned_low i one) (turned_low j two))

  pub all_pairs_permuted : (xs ys : List X) → IsPermutation xs ys → AllPairs R xs → AllPairs R ys
  all_pairs_permuted xs ys order pairs =
      IsPermutation-keeps xs (AllPairs R) pairs (λ l i j one two so. all_pairs_swap l i j one two so) ys order
