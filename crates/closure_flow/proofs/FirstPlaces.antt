-- The first places as a set to solve: its sums are those of the whole lists.
use Rattle.std.proofs.Common.{◌≡◌, ℕ, suc, ◌+◌, ◌<◌, ◌≤◌, List, [], ◌∷◌, length, get_or, true}
use Rattle.std.proofs.Common.{nat_lt, ℤ, pos, unsigned_abs, refl, sym, ap, ◌∙◌, arith}
use Rattle.std.proofs.lemmas.Bool.Decides.{nat_tests}
use Rattle.std.proofs.lemmas.Int.{ints}
use Rattle.std.proofs.lemmas.List.Sums.{sum_by-cons}
use Rattle.std.specs.List.{range_with_len, sum_by}
use Rattle.std.specs.FinSet as set
use Rattle.lists.proofs.Ranges.{first_pass}
use Rattle.arithmetic.specs.Sums.{total}
use Rattle.bitset.specs.Places.{first_places, places}
use Rattle.bitset.specs.Sets.{contains-first_places}
use Rattle.closure_flow.specs.Closures.{weight_at, weight_of}

pub places-first : (n k : ℕ) → k ≤ n → places n (first_places k) ≡ range_with_len 0 k
places-first n k h =
    first_pass (set.contains (first_places k)) 0 k n k (omega arith) h (λ q l. contains-first_places k q)

pub total_read : (ws : List ℤ) (f : ℕ → ℤ) (a : ℕ) → ((i : ℕ) → i < length ws → f (a + i) ≡ get_or ws i (pos 0))
    → total f (range_with_len a (length ws)) ≡ total (λ z. z) ws
total_read [] f a h = refl
total_read (w ∷ ws) f a h =
    let first : f a ≡ w = ap f (let e : a ≡ a + 0 = omega arith in e) ∙ h 0 (omega arith) in
    let others : total f (range_with_len (a + 1) (length ws)) ≡ total (λ z. z) ws =
    total_read ws f (a + 1) (λ i l. ap f (let e : (a + 1) + i ≡ a + suc i = omega arith in e) ∙ h (suc i) (omega arith)) in
    omega (arith, ints, first, others)

pub sum_read : (ws : List ℤ) (f : ℕ → ℕ) (a : ℕ) → ((i : ℕ) → i < length ws → f (a + i) ≡ unsigned_abs (get_or ws i (pos 0)))
    → sum_by f (range_with_len a (length ws)) ≡ sum_by unsigned_abs ws
sum_read [] f a h = refl
sum_read (w ∷ ws) f a h =
    let first : f a ≡ unsigned_abs w = ap f (let e : a ≡ a + 0 = omega arith in e) ∙ h 0 (omega arith) in
    let others : sum_by f (range_with_len (a + 1) (length ws)) ≡ sum_by unsigned_abs ws =
    sum_read ws f (a + 1) (λ i l. ap f (let e : (a + 1) + i ≡ a + suc i = omega arith in e) ∙ h (suc i) (omega arith)) in
    omega (arith, sum_by-cons f a (range_with_len (a + 1) (length ws)), sum_by-cons unsigned_abs w ws, first, others)

pub weight-first : (n : ℕ) (ws : List ℤ) → length ws ≤ n → weight_of n ws (first_places (length ws)) ≡ total (λ z. z) ws
weight-first n ws h = ap (total (weight_at ws)) (places-first n (length ws) h) ∙ total_read ws (weight_at ws) 0 (λ i l. ap (weight_at ws) (omega arith))

pub small-first : (n : ℕ) (ws : List ℤ) → length ws ≤ n
    → sum_by (λ t. unsigned_abs (weight_at ws t)) (places n (first_places (length ws))) ≡ sum_by unsigned_abs ws
small-first n ws h =
    ap (sum_by (λ t. unsigned_abs (weight_at ws t))) (places-first n (length ws) h)
    ∙ sum_read ws (λ t. unsigned_abs (weight_at ws t)) 0 (λ i l. ap (λ t. unsigned_abs (weight_at ws t)) (omega arith))

pub within-first : (k t : ℕ) → set.contains (first_places k) t ≡ true → t < k
within-first k t m = below t k (sym (contains-first_places k t) ∙ m)
  where
    below : (x y : ℕ) → nat_lt x y ≡ true → x < y
    below x y e = grind (arith, nat_tests)
