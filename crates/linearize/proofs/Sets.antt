-- Sets of places: members of changed sets, and sums over a set that is two others side by side.
use Rattle.std.proofs.Common.{◌≡◌, ℕ, ◌+◌, ◌<◌, ◌⊎◌, inl, inr, Bool, true, false, cond, ◌||◌}
use Rattle.std.proofs.Common.{List, [], ◌∷◌, length, sum_by, ℤ, pos, ◌+ℤ◌, refl, sym, ap, ◌∙◌, arith, eq-eqb}
use Rattle.std.proofs.Common.{ne_eqb}
use Rattle.std.proofs.lemmas.Int.{ints}
use Rattle.std.proofs.lemmas.Bool.{cases_eq, false_from_ne_true, cases_Bool}
use Rattle.std.proofs.lemmas.List.Sums.{sum_by-cons}
use Rattle.std.specs.List.{range_with_len}
use Rattle.std.specs.Ordering.{nat_cmp}
use Rattle.std.specs.FinSet as fin
use Rattle.lists.proofs.Cases.{clash}
use Rattle.bitset.specs.Members.{from_remove, to_remove, from_union, to_union_left, to_union_right, minus_parts, in_minus}
use Rattle.arithmetic.specs.Sums.{total}
use Rattle.arithmetic.proofs.Sums.{total-add, total-filter_cond, total_same, total-pos}
use Rattle.bitset.specs.Places.{places, IsWithin, IsLeast}
use Rattle.bitset.specs.Sets.{contains-insert, contains-empty, len-places, places-least, places-empty, same_members}

-- ---- members

-- ---- a set that is two others side by side
pub record IsSplit (s a b : fin.FinSet nat_cmp) : Type 0 where
  pub left : (k : ℕ) → fin.contains a k ≡ true → fin.contains s k ≡ true
  pub right : (k : ℕ) → fin.contains b k ≡ true → fin.contains s k ≡ true
  pub either : (k : ℕ) → fin.contains s k ≡ true → (fin.contains a k ≡ true) ⊎ (fin.contains b k ≡ true)
  pub apart : (k : ℕ) → fin.contains a k ≡ true → fin.contains b k ≡ true → ⊥

pub split_minus : (s c : fin.FinSet nat_cmp) → ((k : ℕ) → fin.contains c k ≡ true → fin.contains s k ≡ true) → IsSplit s c (fin.difference s c)
split_minus s c inside = record {
  left = inside;
  right = λ k m. (minus_parts s c k m).0;
  either = λ k m. elim (cases_Bool (fin.contains c k)) as (λ _. (fin.contains c k ≡ true) ⊎ (fin.contains (fin.difference s c) k ≡ true)) [
    | inl here ↦ inl here
    | inr out ↦ inr (in_minus s c k m (λ here. clash (fin.contains c k) here out))
  ];
  apart = λ k a b. (minus_parts s c k b).1 a;
}

pub split_union : (a b : fin.FinSet nat_cmp) → ((k : ℕ) → fin.contains a k ≡ true → fin.contains b k ≡ true → ⊥) → IsSplit (fin.union a b) a b
split_union a b apart = record { left = to_union_left a b; right = to_union_right a b; either = from_union a b; apart = apart }

single : ℕ → fin.FinSet nat_cmp
single p = fin.insert fin.empty p

in_single : (p q : ℕ) → fin.contains (single p) q ≡ true → q ≡ p
unfolding single
in_single p q m = elim (cases_eq q p) as (λ _. q ≡ p) [
  | inl same ↦ same
  | inr other ↦ clash (fin.contains (fin.insert fin.empty p) q) m
      (contains-insert fin.empty p q ∙ ap (λ (b : Bool). b || fin.contains {R = nat_cmp} fin.empty q) (ne_eqb q p other) ∙ contains-empty q)
]

single_in : (p : ℕ) → fin.contains (single p) p ≡ true
unfolding single
single_in p = contains-insert fin.empty p p ∙ ap (λ (b : Bool). b || fin.contains {R = nat_cmp} fin.empty p) (eq-eqb p p refl)

single_least : (p : ℕ) → IsLeast (single p) p
single_least p = record { member = single_in p; below = λ q m. omega (arith, in_single p q m) }

split_remove : (s : fin.FinSet nat_cmp) (p : ℕ) → fin.contains s p ≡ true → IsSplit s (single p) (fin.remove s p)
split_remove s p m = record {
  left = λ k h. ap (fin.contains s) (in_single p k h) ∙ m;
  right = λ k h. (from_remove s p k h).1;
  either = λ k h. elim (cases_eq k p) as (λ _. (fin.contains (single p) k ≡ true) ⊎ (fin.contains (fin.remove s p) k ≡ true)) [
    | inl same ↦ inl (ap (fin.contains (single p)) same ∙ single_in p)
    | inr other ↦ inr (to_remove s p k other h)
  ];
  apart = λ k a b. (from_remove s p k b).0 (in_single p k a);
}

places_single : (n p : ℕ) → p < n → places n (single p) ≡ p ∷ []
places_single n p inside =
    places-least n (single p) p (single_least p) inside
    ∙ ap (λ t. p ∷ places n t) (same_members (fin.remove (single p) p) fin.empty
    (λ q. false_from_ne_true _ (λ m. (let r = from_remove (single p) p q m in r.0 (in_single p q r.1))) ∙ sym (contains-empty q)))
    ∙ ap (λ qs. p ∷ qs) (places-empty n)

-- ---- sums
term_split : (s a b : Bool) (x : ℤ) → (a ≡ true → s ≡ true) → (b ≡ true → s ≡ true) → (s ≡ true → (a ≡ true) ⊎ (b ≡ true)) → (a ≡ true → b ≡ true → ⊥)
    → cond s x (pos 0) ≡ cond a x (pos 0) +ℤ cond b x (pos 0)
term_split s true true x l r e apart = absurd (apart refl refl)
term_split s true false x l r e apart = ap (λ (t : Bool). cond t x (pos 0)) (l refl) ∙ omega (arith, ints)
term_split s false true x l r e apart = ap (λ (t : Bool). cond t x (pos 0)) (r refl) ∙ omega (arith, ints)
term_split true false false x l r e apart = absurd (elim (e refl) [ inl a ↦ (let f : false ≡ true = a in cc) | inr b ↦ (let f : false ≡ true = b in cc) ])
term_split false false false x l r e apart = omega (arith, ints)

pub total_split : (f : ℕ → ℤ) (n : ℕ) (s a b : fin.FinSet nat_cmp) → IsSplit s a b → total f (places n s) ≡ total f (places n a) +ℤ total f (places n b)
total_split f n s a b split =
    let one = total-filter_cond f (fin.contains s) (range_with_len 0 n) in
    let two = total-filter_cond f (fin.contains a) (range_with_len 0 n) in
    let three = total-filter_cond f (fin.contains b) (range_with_len 0 n) in
    let each : total (λ k. cond (fin.contains s k) (f k) (pos 0)) (range_with_len 0 n) ≡ total
    (λ k. cond (fin.contains a k) (f k) (pos 0) +ℤ cond (fin.contains b k) (f k) (pos 0)) (range_with_len 0 n) =
    total_same _ _ (range_with_len 0 n) (λ k. term_split (fin.contains s k) (fin.contains a k) (fin.contains b k) (f k) (split.left k)
    (split.right k) (split.either k) (split.apart k)) in
    let both = total-add (λ k. cond (fin.contains a k) (f k) (pos 0)) (λ k. cond (fin.contains b k) (f k) (pos 0)) (range_with_len 0 n) in
    omega (arith, ints, one, two, three, each, both)

pub sum_split : (f : ℕ → ℕ) (n : ℕ) (s a b : fin.FinSet nat_cmp) → IsSplit s a b → sum_by f (places n s) ≡ sum_by f (places n a) + sum_by f (places n b)
sum_split f n s a b split =
    let all = total_split (λ k. pos (f k)) n s a b split in
    omega (arith, ints, all, total-pos f (places n s), total-pos f (places n a), total-pos f (places n b))

length_is_sum : {A : Type 0} (xs : List A) → sum_by (λ x. 1) xs ≡ length xs
length_is_sum [] = refl
length_is_sum {A} (x ∷ xs) = omega (arith, length_is_sum xs, sum_by-cons (λ (y : A). 1) x xs)

pub len_split : (n : ℕ) (s a b : fin.FinSet nat_cmp) → IsWithin n s → IsSplit s a b → fin.len s ≡ fin.len a + fin.len b
len_split n s a b within split =
    let all = sum_split (λ k. 1) n s a b split in
    omega (
      arith,
      all,
      length_is_sum (places n s),
      length_is_sum (places n a),
      length_is_sum (places n b),
      len-places n s within,
      len-places n a (λ k m. within k (split.left k m)),
      len-places n b (λ k m. within k (split.right k m)),
    )

pub total_remove : (f : ℕ → ℤ) (n : ℕ) (s : fin.FinSet nat_cmp) (p : ℕ) → p < n → fin.contains s p ≡ true
    → total f (places n s) ≡ f p +ℤ total f (places n (fin.remove s p))
total_remove f n s p inside m =
    let all = total_split f n s (single p) (fin.remove s p) (split_remove s p m) in
    let one : total f (places n (single p)) ≡ f p +ℤ pos 0 = ap (total f) (places_single n p inside) in
    omega (arith, ints, all, one)
