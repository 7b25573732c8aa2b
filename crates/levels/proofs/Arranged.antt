-- Numbers in rising order.
use Rattle.std.proofs.Common.{◌≡◌, ℕ, suc, zero, ◌+◌, ◌<◌, ◌≤◌, Bool, true, false, cond, nat_lt, List, [], ◌∷◌, length, slice_index, sym, refl, ap, subst, ◌∙◌, inl, inr, ◌⊎◌, ◌↔◌, arith, ltb-true, ltb-false}
use Rattle.std.specs.Prelude.{Contains, sum_by}
use Rattle.std.proofs.lemmas.List.Sums.{sum_by-cons}
use Rattle.std.specs.List.Sorted.{IsStrictlyIncreasing}
use Rattle.lists.proofs.Entries.{Contains-head, Contains-later, Contains-cases}
use Rattle.lists.specs.Distinct.{AreDistinct}

put : ℕ → List ℕ → List ℕ
put x [] = x ∷ []
put x (y ∷ ys) = cond (nat_lt x y) (x ∷ y ∷ ys) (y ∷ put x ys)

-- the numbers of a list, each put where it belongs
pub arranged : List ℕ → List ℕ
arranged [] = []
arranged (x ∷ xs) = put x (arranged xs)

IsBelow : ℕ → List ℕ → Type 0
IsBelow x [] = Unit {0}
IsBelow x (y ∷ ys) = x < y

Rises : List ℕ → Type 0
Rises [] = Unit {0}
Rises (x ∷ xs) = IsBelow x xs × Rises xs

put_kept : (x : ℕ) (ys : List ℕ) (q : ℕ) → Contains (put x ys) q → (x ≡ q) ⊎ Contains ys q
unfolding put
put_kept x [] q here = Contains-cases x q [] here
put_kept x (y ∷ ys) q here = cases (nat_lt x y) here (put_kept x ys q)
  where
    cases : (b : Bool) → Contains (cond b (x ∷ y ∷ ys) (y ∷ put x ys)) q → (Contains (put x ys) q → (x ≡ q) ⊎ Contains ys q) → (x ≡ q) ⊎ Contains (y ∷ ys) q
    cases true here rest = Contains-cases x q (y ∷ ys) here
    cases false here rest = elim (Contains-cases y q (put x ys) here) [
      | inl same ↦ inr (subst (Contains (y ∷ ys)) same (Contains-head y ys))
      | inr later ↦ elim (rest later) [ inl same ↦ inl same | inr was ↦ inr (Contains-later y q ys was) ]
    ]

kept_put : (x : ℕ) (ys : List ℕ) (q : ℕ) → (x ≡ q) ⊎ Contains ys q → Contains (put x ys) q
unfolding put
kept_put x [] q held = elim held [ inl same ↦ subst (Contains (x ∷ [])) same (Contains-head x []) | inr here ↦ absurd (omega (arith, here.1)) ]
kept_put x (y ∷ ys) q held = cases (nat_lt x y) (kept_put x ys q)
  where
    cases : (b : Bool) → ((x ≡ q) ⊎ Contains ys q → Contains (put x ys) q) → Contains (cond b (x ∷ y ∷ ys) (y ∷ put x ys)) q
    cases true rest = elim held [ inl same ↦ subst (Contains (x ∷ y ∷ ys)) same (Contains-head x (y ∷ ys)) | inr here ↦ Contains-later x q (y ∷ ys) here ]
    cases false rest = elim held [
      | inl same ↦ Contains-later y q (put x ys) (rest (inl same))
      | inr here ↦ elim (Contains-cases y q ys
          here) [ inl is ↦ subst (Contains (y ∷ put x ys)) is (Contains-head y (put x ys)) | inr later ↦ Contains-later y q (put x ys) (rest (inr later)) ]
    ]

below_put : (z x : ℕ) (ys : List ℕ) → z < x → IsBelow z ys → IsBelow z (put x ys)
unfolding put IsBelow
below_put z x [] low below = low
below_put z x (y ∷ ys) low below = elim (nat_lt x y) as (λ b. IsBelow z (cond b (x ∷ y ∷ ys) (y ∷ put x ys))) [ true ↦ low | false ↦ below ]

put_rises : (x : ℕ) (ys : List ℕ) → Rises ys → (Contains ys x → ⊥) → Rises (put x ys)
unfolding put Rises IsBelow
put_rises x [] rises none = (tt, tt)
put_rises x (y ∷ ys) rises none = cases (nat_lt x y) refl (put_rises x ys rises.1 (λ here. none (Contains-later y x ys here)))
  where
    cases : (b : Bool) → nat_lt x y ≡ b → Rises (put x ys) → Rises (cond b (x ∷ y ∷ ys) (y ∷ put x ys))
    cases true is rest = (ltb-true x y is, rises)
    cases false is rest =
        let other : x ≡ y → ⊥ = λ same. none (subst (Contains (y ∷ ys)) (sym same) (Contains-head y ys)) in
        let low : y ≤ x = ltb-false x y is in
        (below_put y x ys (omega arith) rises.0, rest)

pub arranged_is : (xs : List ℕ) (q : ℕ) → Contains (arranged xs) q ↔ Contains xs q
unfolding arranged
arranged_is [] q = (λ here. here, λ here. here)
arranged_is (x ∷ xs) q = (
  λ here. elim (put_kept x
      (arranged xs) q here) [ inl same ↦ subst (Contains (x ∷ xs)) same (Contains-head x xs) | inr later ↦ Contains-later x q xs ((arranged_is xs q).0 later) ],
  λ here. kept_put x (arranged xs) q (elim (Contains-cases x q xs here) [ inl same ↦ inl same | inr later ↦ inr ((arranged_is xs q).1 later) ]),
)

arranged_rises : (xs : List ℕ) → AreDistinct xs → Rises (arranged xs)
unfolding arranged Rises
arranged_rises [] once = tt
arranged_rises (x ∷ xs) once = put_rises x (arranged xs) (arranged_rises xs once.1) (λ here. once.0 ((arranged_is xs x).0 here))

rises_increasing : (xs : List ℕ) → Rises xs → IsStrictlyIncreasing xs
unfolding Rises IsBelow
rises_increasing [] rises k low = absurd (omega arith)
rises_increasing (x ∷ []) rises k low = absurd (omega arith)
rises_increasing (x ∷ y ∷ xs) rises zero low = rises.0
rises_increasing (x ∷ y ∷ xs) rises (suc k) low =
    let next : suc (suc k) ≡ suc k + 1 = omega arith in
    let here : suc k ≡ k + 1 = omega arith in
    let is : slice_index (x ∷ y ∷ xs) (suc k) < slice_index (x ∷ y ∷ xs) (suc (suc k)) =
    subst (λ n. slice_index (y ∷ xs) k < slice_index (y ∷ xs) n) (sym here) (rises_increasing (y ∷ xs) rises.1 k (omega arith)) in
    subst (λ n. slice_index (x ∷ y ∷ xs) (suc k) < slice_index (x ∷ y ∷ xs) n) next is

pub arranged_increasing : (xs : List ℕ) → AreDistinct xs → IsStrictlyIncreasing (arranged xs)
arranged_increasing xs once = rises_increasing (arranged xs) (arranged_rises xs once)

put_sum : (f : ℕ → ℕ) (x : ℕ) (ys : List ℕ) → sum_by f (put x ys) ≡ f x + sum_by f ys
unfolding put
put_sum f x [] = sum_by-cons f x []
put_sum f x (y ∷ ys) = cases (nat_lt x y) (put_sum f x ys)
  where
    cases : (b : Bool) → sum_by f (put x ys) ≡ f x + sum_by f ys → sum_by f (cond b (x ∷ y ∷ ys) (y ∷ put x ys)) ≡ f x + sum_by f (y ∷ ys)
    cases true rest = sum_by-cons f x (y ∷ ys)
    cases false rest =
        let inner : sum_by f (y ∷ ys) ≡ f y + sum_by f ys = sum_by-cons f y ys in
        let outer : sum_by f (y ∷ put x ys) ≡ f y + sum_by f (put x ys) = sum_by-cons f y (put x ys) in
        omega arith

pub arranged_sum : (f : ℕ → ℕ) (xs : List ℕ) → sum_by f (arranged xs) ≡ sum_by f xs
unfolding arranged
arranged_sum f [] = refl
arranged_sum f (x ∷ xs) = put_sum f x (arranged xs) ∙ ap (λ n. f x + n) (arranged_sum f xs) ∙ sym (sum_by-cons f x xs)

put_length : (x : ℕ) (ys : List ℕ) → length (put x ys) ≡ suc (length ys)
unfolding put
put_length x [] = refl
put_length x (y ∷ ys) =
    elim (nat_lt x y) as (λ b. length (cond b (x ∷ y ∷ ys) (y ∷ put x ys)) ≡ suc (suc (length ys))) [ true ↦ refl | false ↦ ap suc (put_length x ys) ]

pub arranged_length : (xs : List ℕ) → length (arranged xs) ≡ length xs
unfolding arranged
arranged_length [] = refl
arranged_length (x ∷ xs) = put_length x (arranged xs) ∙ ap suc (arranged_length xs)
