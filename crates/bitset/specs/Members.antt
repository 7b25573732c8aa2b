-- Members of sets of numbers: what is in a set that is made of others, and how many are in it.
use Rattle.std.proofs.Common.{◌≡◌, ℕ, ◌+◌, ◌<◌, ◌≤◌, Bool, true, false, cond, not, ◌&&◌, ◌||◌, ◌⊎◌, inl, inr, List, [], ◌∷◌, length, filter, refl, sym, ap, ◌∙◌, subst, arith, eq-eqb, ne_eqb}
use Rattle.std.proofs.lemmas.Bool.{cases_eq, and_parts, or_cases, false_from_ne_true}
use Rattle.std.proofs.lemmas.List.FromFn.{length-range_with_len}
use Rattle.std.specs.List.{range_with_len}
use Rattle.std.specs.Ordering.{nat_cmp}
use Rattle.std.specs.Cmp.{nat_cmp_total}
use Rattle.std.specs.FinSet as set
use Rattle.lists.proofs.Cases.{clash, same_test, or_true, false_from_not}
use Rattle.bitset.specs.Places.{IsWithin}
use Rattle.bitset.specs.Sets.{same_members, contains-insert, contains-remove, contains-union, contains-intersection, contains-difference, contains-empty, len-places}

pub remove_other : (s : set.FinSet nat_cmp) (k q : ℕ) → (q ≡ k → ⊥) → set.contains (set.remove s k) q ≡ set.contains s q
remove_other s k q ne = contains-remove s k q ∙ ap (λ (b : Bool). not b && set.contains s q) (ne_eqb q k ne)

pub remove_here : (s : set.FinSet nat_cmp) (k : ℕ) → set.contains (set.remove s k) k ≡ false
remove_here s k = contains-remove s k k ∙ ap (λ (b : Bool). not b && set.contains s k) (eq-eqb k k refl)

pub insert_other : (s : set.FinSet nat_cmp) (k q : ℕ) → (q ≡ k → ⊥) → set.contains (set.insert s k) q ≡ set.contains s q
insert_other s k q ne = contains-insert s k q ∙ ap (λ (b : Bool). b || set.contains s q) (ne_eqb q k ne)

pub insert_here : (s : set.FinSet nat_cmp) (k : ℕ) → set.contains (set.insert s k) k ≡ true
insert_here s k = contains-insert s k k ∙ ap (λ (b : Bool). b || set.contains s k) (eq-eqb k k refl)

-- ---- what a member of a set is, and what is a member

pub from_insert : (s : set.FinSet nat_cmp) (k q : ℕ) → set.contains (set.insert s k) q ≡ true → (q ≡ k) ⊎ (set.contains s q ≡ true)
from_insert s k q m = elim (cases_eq q k) as (λ _. (q ≡ k) ⊎ (set.contains s q ≡ true)) [ inl e ↦ inl e | inr ne ↦ inr (sym (insert_other s k q ne) ∙ m) ]

pub to_insert : (s : set.FinSet nat_cmp) (k q : ℕ) → set.contains s q ≡ true → set.contains (set.insert s k) q ≡ true
to_insert s k q m = elim (cases_eq q k) as (λ _. set.contains (set.insert s k) q ≡ true) [
  | inl e ↦ subst (λ (x : ℕ). set.contains (set.insert s k) x ≡ true) (sym e) (insert_here s k)
  | inr ne ↦ insert_other s k q ne ∙ m
]

pub from_remove : (s : set.FinSet nat_cmp) (k q : ℕ) → set.contains (set.remove s k) q ≡ true → (q ≡ k → ⊥) × (set.contains s q ≡ true)
from_remove s k q m =
    let ne : (q ≡ k → ⊥) = λ e. clash _ m (ap (λ (x : ℕ). set.contains (set.remove s k) x) e ∙ remove_here s k) in
    (ne, sym (remove_other s k q ne) ∙ m)

pub to_remove : (s : set.FinSet nat_cmp) (k q : ℕ) → (q ≡ k → ⊥) → set.contains s q ≡ true → set.contains (set.remove s k) q ≡ true
to_remove s k q other m = remove_other s k q other ∙ m

pub removed_here : (s : set.FinSet nat_cmp) (k : ℕ) → set.contains (set.remove s k) k ≡ true → ⊥
removed_here s k m = (from_remove s k k m).0 refl

pub from_meet : (s t : set.FinSet nat_cmp) (q : ℕ) → set.contains (set.intersection s t) q ≡ true → (set.contains s q ≡ true) × (set.contains t q ≡ true)
from_meet s t q m = and_parts _ _ (sym (contains-intersection s t q) ∙ m)

pub to_meet : (s t : set.FinSet nat_cmp) (q : ℕ) → set.contains s q ≡ true → set.contains t q ≡ true → set.contains (set.intersection s t) q ≡ true
to_meet s t q a b = contains-intersection s t q ∙ ap (λ (x : Bool). x && set.contains t q) a ∙ b

pub from_union : (s t : set.FinSet nat_cmp) (q : ℕ) → set.contains (set.union s t) q ≡ true → (set.contains s q ≡ true) ⊎ (set.contains t q ≡ true)
from_union s t q m = or_cases _ _ (sym (contains-union s t q) ∙ m)

pub to_union_left : (s t : set.FinSet nat_cmp) (q : ℕ) → set.contains s q ≡ true → set.contains (set.union s t) q ≡ true
to_union_left s t q a = contains-union s t q ∙ ap (λ (x : Bool). x || set.contains t q) a

pub to_union_right : (s t : set.FinSet nat_cmp) (q : ℕ) → set.contains t q ≡ true → set.contains (set.union s t) q ≡ true
to_union_right s t q a = contains-union s t q ∙ ap (λ (x : Bool). set.contains s q || x) a ∙ or_true (set.contains s q)

pub from_minus : (s t : set.FinSet nat_cmp) (q : ℕ) → set.contains (set.difference s t) q ≡ true → (set.contains s q ≡ true) × (set.contains t q ≡ false)
from_minus s t q m =
    let both : (set.contains s q ≡ true) × (not (set.contains t q) ≡ true) = and_parts _ _ (sym (contains-difference s t q) ∙ m) in
    (both.0, false_from_not (set.contains t q) both.1)

pub to_minus : (s t : set.FinSet nat_cmp) (q : ℕ) → set.contains s q ≡ true → set.contains t q ≡ false → set.contains (set.difference s t) q ≡ true
to_minus s t q a b = contains-difference s t q ∙ ap (λ (x : Bool). x && not (set.contains t q)) a ∙ ap not b

-- the same of a set that doesn't hold the number
pub minus_parts : (s t : set.FinSet nat_cmp) (q : ℕ) → set.contains (set.difference s t) q ≡ true → (set.contains s q ≡ true) × (set.contains t q ≡ true → ⊥)
minus_parts s t q m = let both : (set.contains s q ≡ true) × (set.contains t q ≡ false) = from_minus s t q m in (both.0, λ e. clash _ e both.1)

pub in_minus : (s t : set.FinSet nat_cmp) (q : ℕ) → set.contains s q ≡ true → (set.contains t q ≡ true → ⊥) → set.contains (set.difference s t) q ≡ true
in_minus s t q a out = to_minus s t q a (false_from_ne_true (set.contains t q) out)

pub empty_has_none : (s : set.FinSet nat_cmp) (k : ℕ) → set.contains s k ≡ true → s ≡ set.empty → ⊥
empty_has_none s k m e = clash (set.contains s k) m (ap (λ t. set.contains t k) e ∙ contains-empty k)

pub same_by_members : (s t : set.FinSet nat_cmp) → ((q : ℕ) → set.contains s q ≡ true → set.contains t q ≡ true)
    → ((q : ℕ) → set.contains t q ≡ true → set.contains s q ≡ true) → s ≡ t
same_by_members s t there back = same_members s t (λ q. same_test (set.contains s q) (set.contains t q) (there q) (back q))

-- ---- how many

keep_short : (b : Bool) (x : ℕ) (ys xs : List ℕ) → length ys ≤ length xs → length (cond b (x ∷ ys) ys) ≤ length (x ∷ xs)
keep_short true x ys xs h = omega arith
keep_short false x ys xs h = omega arith

filter_short : (p : ℕ → Bool) (xs : List ℕ) → length (filter p xs) ≤ length xs
filter_short p [] = omega arith
filter_short p (x ∷ xs) = keep_short (p x) x (filter p xs) xs (filter_short p xs)

-- a set of numbers below n has at most n
pub len_bound : (n : ℕ) (s : set.FinSet nat_cmp) → IsWithin n s → set.len s ≤ n
len_bound n s w = omega (arith, len-places n s w, filter_short (set.contains s) (range_with_len 0 n), length-range_with_len 0 n)

pub len_insert : (s : set.FinSet nat_cmp) (k : ℕ) → set.contains s k ≡ false → set.len (set.insert s k) ≡ set.len s + 1
len_insert s k out = set.len-insert nat_cmp_total s k ∙ ap (λ (b : Bool). cond b (set.len s) (set.len s + 1)) out

-- a number that isn't in a set leaves room for it
pub room_for : (n : ℕ) (s : set.FinSet nat_cmp) (k : ℕ) → IsWithin n s → k < n → set.contains s k ≡ false → set.len s < n
room_for n s k w h out =
    let within : IsWithin n (set.insert s k) =
    λ q m. elim (from_insert s k q m) as (λ _. q < n) [ inl e ↦ subst (λ (x : ℕ). x < n) (sym e) h | inr m2 ↦ w q m2 ] in
    omega (arith, len_bound n (set.insert s k) within, len_insert s k out)
