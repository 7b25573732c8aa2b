-- Laws of sums of integers over lists.
use Rattle.std.proofs.Common.{◌≡◌, ℕ, ◌*◌, ◌≤◌, length, unsigned_abs, List, [], ◌∷◌, ◌++◌, Bool, true, false, not, cond, ◌+◌, ℤ, pos, ◌+ℤ◌, ◌-ℤ◌, ◌*ℤ◌, neg_ℤ, ◌≤ℤ◌, refl, sym, ap, ◌∙◌, arith}
use Rattle.std.specs.Prelude.{All, Contains, sum_by}
use Rattle.std.specs.List.{filter}
use Rattle.std.proofs.lemmas.List.Elements.{All-head, All-tail}
use Rattle.std.proofs.lemmas.Int.{ints}
use Rattle.std.proofs.lemmas.List.Sums.{sum_by-cons}
use Rattle.lists.proofs.Entries.{Contains-head, Contains-later}
use Rattle.arithmetic.specs.Sums.{total}
use Rattle.arithmetic.proofs.Products.{mul-add_left, mul-add_right}

-- ---- over `++`, over a filter, over a permuted pair of sums
pub total-append : {A : Type 0} (f : A → ℤ) (xs ys : List A) → total f (xs ++ ys) ≡ total f xs +ℤ total f ys
total-append f [] ys = omega (arith, ints)
total-append f (x ∷ xs) ys = omega (arith, ints, total-append f xs ys)

split_step : {A : Type 0} (f : A → ℤ) (x : A) (all : ℤ) (ys zs : List A) (b : Bool) → all ≡ total f ys +ℤ total f zs
    → f x +ℤ all ≡ total f (cond b (x ∷ ys) ys) +ℤ total f (cond (not b) (x ∷ zs) zs)
split_step f x all ys zs true e = omega (arith, ints)
split_step f x all ys zs false e = omega (arith, ints)

-- the entries that pass a test and those that don't
pub total-filter : {A : Type 0} (f : A → ℤ) (p : A → Bool) (xs : List A) → total f xs ≡ total f (filter p xs) +ℤ total f (filter (λ x. not (p x)) xs)
total-filter f p [] = refl
total-filter f p (x ∷ xs) = split_step f x (total f xs) (filter p xs) (filter (λ y. not (p y)) xs) (p x) (total-filter f p xs)

cond_step : {A : Type 0} (f : A → ℤ) (x : A) (all : ℤ) (ys : List A) (b : Bool) → total f ys ≡ all → total f (cond b (x ∷ ys) ys) ≡ cond b (f x) (pos 0) +ℤ all
cond_step f x all ys true e = omega (arith, ints)
cond_step f x all ys false e = omega (arith, ints)

-- a sum over the entries that pass a test is a sum with 0 at the others
pub total-filter_cond : {A : Type 0} (f : A → ℤ) (p : A → Bool) (xs : List A) → total f (filter p xs) ≡ total (λ x. cond (p x) (f x) (pos 0)) xs
total-filter_cond f p [] = refl
total-filter_cond f p (x ∷ xs) = cond_step f x (total (λ y. cond (p y) (f y) (pos 0)) xs) (filter p xs) (p x) (total-filter_cond f p xs)

pub total-add : {A : Type 0} (f g : A → ℤ) (xs : List A) → total (λ x. f x +ℤ g x) xs ≡ total f xs +ℤ total g xs
total-add f g [] = refl
total-add f g (x ∷ xs) = omega (arith, ints, total-add f g xs)

pub total-sub : {A : Type 0} (f g : A → ℤ) (xs : List A) → total (λ x. f x -ℤ g x) xs ≡ total f xs -ℤ total g xs
total-sub f g [] = refl
total-sub f g (x ∷ xs) = omega (arith, ints, total-sub f g xs)

pub total-scale : {A : Type 0} (f : A → ℤ) (k : ℤ) (xs : List A) → total (λ x. f x *ℤ k) xs ≡ total f xs *ℤ k
total-scale f k [] = omega (arith, ints)
total-scale f k (x ∷ xs) = omega (arith, ints, total-scale f k xs, mul-add_left (f x) (total f xs) k)

pub total-zero : {A : Type 0} (xs : List A) → total {A = A} (λ x. pos 0) xs ≡ pos 0
total-zero [] = refl
total-zero {A} (x ∷ xs) = omega (arith, ints, total-zero {A = A} xs)

-- the two orders of a double sum
pub total_swap : {A B : Type 0} (f : A → B → ℤ) (xs : List A) (ys : List B) → total (λ x. total (λ y. f x y) ys) xs ≡ total (λ y. total (λ x. f x y) xs) ys
total_swap f [] ys = sym (total-zero ys)
total_swap f (x ∷ xs) ys =
    ap (λ (n : ℤ). total (λ y. f x y) ys +ℤ n) (total_swap f xs ys) ∙ sym (total-add (λ y. f x y) (λ y. total (λ x. f x y) xs) ys)

-- ---- order
pub total_same : {A : Type 0} (f g : A → ℤ) (xs : List A) → ((x : A) → f x ≡ g x) → total f xs ≡ total g xs
total_same f g [] e = refl
total_same f g (x ∷ xs) e = omega (arith, ints, e x, total_same f g xs e)

-- terms of at most m either way have a sum of at most m for each
pub total_within : {A : Type 0} (f : A → ℤ) (m : ℕ) (xs : List A) → All (λ x. unsigned_abs (f x) ≤ m) xs → unsigned_abs (total f xs) ≤ m * length xs
total_within f m [] h = omega (arith, ints)
total_within f m (x ∷ xs) h =
    let first : unsigned_abs (f x) ≤ m = All-head (λ y. unsigned_abs (f y) ≤ m) x xs h in
    let more = total_within f m xs (All-tail (λ y. unsigned_abs (f y) ≤ m) x xs h) in
    omega (arith, ints)

-- sums whose terms agree at each entry are the same
pub total_along : {A : Type 0} (f g : A → ℤ) (xs : List A) → ((x : A) → Contains xs x → f x ≡ g x) → total f xs ≡ total g xs
total_along f g [] e = refl
total_along f g (x ∷ xs) e = omega (arith, ints, e x (Contains-head x xs), total_along f g xs (λ y h. e y (Contains-later x y xs h)))

-- ---- of natural numbers
pub total-pos : {A : Type 0} (f : A → ℕ) (xs : List A) → total (λ x. pos (f x)) xs ≡ pos (sum_by f xs)
total-pos f [] = refl
total-pos f (x ∷ xs) = omega (arith, ints, total-pos f xs, sum_by-cons f x xs)

pub total-pos-scale : {A : Type 0} (f : A → ℕ) (k : ℤ) (xs : List A) → total (λ x. k *ℤ pos (f x)) xs ≡ k *ℤ pos (sum_by f xs)
total-pos-scale f k [] = omega (arith, ints)
total-pos-scale f k (x ∷ xs) =
    let parts : pos (sum_by f (x ∷ xs)) ≡ pos (f x) +ℤ pos (sum_by f xs) = omega (arith, ints, sum_by-cons f x xs) in
    omega (arith, ints, total-pos-scale f k xs, ap (λ (z : ℤ). k *ℤ z) parts, mul-add_right k (pos (f x)) (pos (sum_by f xs)))

pub sum_by-add : {A : Type 0} (f g : A → ℕ) (xs : List A) → sum_by (λ x. f x + g x) xs ≡ sum_by f xs + sum_by g xs
sum_by-add f g [] = refl
sum_by-add f g (x ∷ xs) = omega (arith, sum_by-add f g xs, sum_by-cons f x xs, sum_by-cons g x xs, sum_by-cons (λ y. f y + g y) x xs)

pub sum_by_along : {A : Type 0} (f g : A → ℕ) (xs : List A) → ((x : A) → Contains xs x → f x ≡ g x) → sum_by f xs ≡ sum_by g xs
sum_by_along f g [] e = refl
sum_by_along f g (x ∷ xs) e =
    omega (arith, sum_by-cons f x xs, sum_by-cons g x xs, e x (Contains-head x xs), sum_by_along f g xs (λ y h. e y (Contains-later x y xs h)))

pub sum_by_within : {A : Type 0} (f : A → ℕ) (m : ℕ) (xs : List A) → ((x : A) → Contains xs x → f x ≤ m) → sum_by f xs ≤ m * length xs
sum_by_within f m [] h = omega arith
sum_by_within f m (x ∷ xs) h =
    omega (arith, sum_by-cons f x xs, h x (Contains-head x xs), sum_by_within f m xs (λ y k. h y (Contains-later x y xs k)))
