-- Sums and counts over a list: what grows with each term, and how large it is.
use Rattle.std.proofs.Common.{◌≡◌, ℕ, ◌*◌, ◌<◌, ◌≤◌, inl, inr, List, [], ◌∷◌, length, Bool, true, false, cond, arith, refl, sym, subst}
use Rattle.std.specs.List.{sum_by, count_by}
use Rattle.std.proofs.lemmas.List.Sums.{sum_by-cons}
use Rattle.closure_flow.specs.Flows.{Among}

pub sum_mono : (f g : ℕ → ℕ) (xs : List ℕ) → ((x : ℕ) → Among x xs → f x ≤ g x) → sum_by f xs ≤ sum_by g xs
sum_mono f g [] h = omega arith
sum_mono f g (x ∷ xs) h = omega (arith, sum_by-cons f x xs, sum_by-cons g x xs, h x (inl refl), sum_mono f g xs (λ y m. h y (inr m)))

pub sum_strict : (f g : ℕ → ℕ) (xs : List ℕ) (a : ℕ) → ((x : ℕ) → Among x xs → f x ≤ g x) → Among a xs → f a < g a → sum_by f xs < sum_by g xs
sum_strict f g [] a h m l = absurd m
sum_strict f g (x ∷ xs) a h (inl e) l =
    let first : f x < g x = subst (λ (y : ℕ). f y < g y) e l in
    omega (arith, sum_by-cons f x xs, sum_by-cons g x xs, sum_mono f g xs (λ y m. h y (inr m)))
sum_strict f g (x ∷ xs) a h (inr m) l =
    omega (arith, sum_by-cons f x xs, sum_by-cons g x xs, h x (inl refl), sum_strict f g xs a (λ y k. h y (inr k)) m l)

pub sum_bound : (f : ℕ → ℕ) (xs : List ℕ) (most : ℕ) → ((x : ℕ) → f x ≤ most) → sum_by f xs ≤ length xs * most
sum_bound f [] most h = omega arith
sum_bound f (x ∷ xs) most h = omega (arith, sum_by-cons f x xs, h x, sum_bound f xs most h)

pub sum_none : (f : ℕ → ℕ) (xs : List ℕ) → ((x : ℕ) → f x ≡ 0) → sum_by f xs ≡ 0
sum_none f [] h = refl
sum_none f (x ∷ xs) h = omega (arith, sum_by-cons f x xs, h x, sum_none f xs h)

-- ---- tests
one_or_none : (a b : Bool) → (a ≡ true → b ≡ true) → cond a 1 0 ≤ cond b 1 0
one_or_none true b h = subst (λ (c : Bool). 1 ≤ cond c 1 0) (sym (h refl)) (omega arith)
one_or_none false b h = omega arith

none_then_one : (a b : Bool) → a ≡ false → b ≡ true → cond a 1 0 < cond b 1 0
none_then_one a b e f = subst (λ (c : Bool). cond c 1 0 < cond b 1 0) (sym e) (subst (λ (c : Bool). 0 < cond c 1 0) (sym f) (omega arith))

pub count_mono : (p q : ℕ → Bool) (xs : List ℕ) → ((x : ℕ) → Among x xs → p x ≡ true → q x ≡ true) → count_by p xs ≤ count_by q xs
count_mono p q xs h = sum_mono (λ x. cond (p x) 1 0) (λ x. cond (q x) 1 0) xs (λ x m. one_or_none (p x) (q x) (h x m))

pub count_strict : (p q : ℕ → Bool) (xs : List ℕ) (a : ℕ) → ((x : ℕ) → Among x xs → p x ≡ true → q x ≡ true) → Among a xs → p a ≡ false → q a ≡ true
    → count_by p xs < count_by q xs
count_strict p q xs a h m e f = sum_strict (λ x. cond (p x) 1 0) (λ x. cond (q x) 1 0) xs a (λ x k. one_or_none (p x) (q x) (h x k)) m
    (none_then_one (p a) (q a) e f)
