-- Each operation on words is the operation on the sets that they stand for.
use Rattle.std.proofs.Common.{◌≡◌, ℕ, suc, ◌+◌, ◌-◌, ◌*◌, ◌/◌, ◌%◌, ◌^◌, ◌<◌, ◌≤◌, Bool, true, false, not, ◌&&◌, ◌||◌, ◌≢◌, nat_eq, nat_lt, List, cond}
use Rattle.std.proofs.Common.{length, set, replicate, bit_and, bit_or, slice_index, inl, inr, refl, sym, ap, ap₂, ◌∙◌, arith, w64, lt-ltb}
use Rattle.std.proofs.Common.{le-ltb, eq-eqb, ne_eqb, length-set, true≢false, below_more, lt_of_le_of_lt}
use Rattle.std.proofs.lemmas.Bool.{cases_lt, cases_eq, false_from_ne_true, and_parts}
use Rattle.std.proofs.lemmas.List.{set-get_or, get_or_past, get_or-set_same, get_or-set_other, get_or-replicate, length-replicate}
use Rattle.std.proofs.lemmas.Nat.{leading_top, one_shl, pow_below, or_comm, or_lt, and_le_l}
use Rattle.std.proofs.lemmas.Nat.Bits.{bit_at-pow_same, bit_at-pow_other, shr_and_one, bit_at_ones, bit_at_above, bit_at_cat_high, bit_at_ones_above, bit_at-trailing_zeros}
use Rattle.std.specs.Int.{bit_at, leading_zeros, trailing_zeros}
use Rattle.std.specs.Ordering.{nat_cmp}
use Rattle.std.specs.Cmp.{nat_cmp_total}
use Rattle.std.specs.FinSet as fin
use Rattle.lists.proofs.Cases.{false_from_not}
use Rattle.bitset.specs.Places.{first_places, IsWithin, IsLeast}
use Rattle.bitset.specs.Words.{is_set, is_place, members_of, AreWords}
use Rattle.bitset.specs.OneBit.{is_set-zero, is_set-and, is_set-or, is_set-not, same_from_set}
use Rattle.bitset.specs.Sets.{contains-empty, contains-insert, contains-remove, contains-union, contains-intersection, contains-difference, contains-first_places}
use Rattle.bitset.specs.Members.{insert_here, insert_other, remove_here, remove_other}
use Rattle.bitset.specs.WordSets.{is_place-past, is_place-at, contains-members_of, members_from}

-- the place q by its word and its bit
split_place : (q : ℕ) → 64 * (q / 64) + q % 64 ≡ q
split_place q = omega arith

pub members_of-within : (w : ℕ) (words : List ℕ) → length words ≡ w → IsWithin (64 * w) (members_of words)
members_of-within w words long q e =
    elim (cases_lt q (64 * w)) as (λ _. q < 64 * w) [
      | inl h ↦ h
      | inr h ↦ absurd (true≢false (sym e ∙ contains-members_of words q ∙ is_place-past words q (rw long h)))
    ]

zeros : (w i : ℕ) → slice_index (replicate w 0) i ≡ 0
zeros w i = elim (cases_lt i w) as (λ _. slice_index (replicate w 0) i ≡ 0) [
  | inl h ↦ get_or-replicate w i 0 0 h
  | inr h ↦ get_or_past (replicate w 0) i 0 (omega (arith, length-replicate {A = ℕ} w 0))
]

-- ---- one place

-- the number whose one bit is k
is_set-one : (k i : ℕ) → k < 64 → is_set (1 * 2 ^ k % 2 ^ 64) i ≡ nat_eq i k
is_set-one k i h =
    ap (λ n. is_set n i) (one_shl k 64 h) ∙ elim (cases_eq i k) as (λ _. is_set (2 ^ k) i ≡ nat_eq i k) [
      | inl e ↦ ap (is_set (2 ^ k)) e ∙ ap (λ n. nat_eq n 1) (bit_at-pow_same k) ∙ sym (eq-eqb i k e)
      | inr e ↦ ap (λ n. nat_eq n 1) (bit_at-pow_other k i e) ∙ sym (ne_eqb i k e)
    ]

one_below : (k : ℕ) → k < 64 → 1 * 2 ^ k % 2 ^ 64 < 2 ^ 64
one_below k h = rw one_shl (pow_below k 64 h)

-- a word is written at the word of place p: the other words keep their places
written : (words : List ℕ) (p v : ℕ) (now : ℕ → Bool) → p < 64 * length words → ((k : ℕ) → k < 64 → is_set v k ≡ now (64 * (p / 64) + k))
    → ((q : ℕ) → q / 64 ≢ p / 64 → is_place words q ≡ now q) → (q : ℕ) → is_place (set words (p / 64) v) q ≡ now q
written words p v now h here there q =
    elim (cases_eq (q / 64) (p / 64)) as (λ _. is_place (set words (p / 64) v) q ≡ now q) [
      | inl same ↦
          let inside : p / 64 < length words = omega arith in
          ap (λ i. is_set (slice_index (set words (p / 64) v) i) (q % 64)) same
          ∙ ap (λ n. is_set n (q % 64)) (get_or-set_same words (p / 64) v 0 inside)
          ∙ here (q % 64) (omega arith)
          ∙ ap (λ i. now (64 * i + q % 64)) (sym same) ∙ ap now (split_place q)
      | inr other ↦ ap (λ n. is_set n (q % 64)) (get_or-set_other words (p / 64) (q / 64) v 0 other) ∙ there q other
    ]

-- bit k of the word of p is p itself at one k
same_place : (p k : ℕ) → k < 64 → nat_eq k (p % 64) ≡ nat_eq (64 * (p / 64) + k) p
same_place p k h = elim (cases_eq k (p % 64)) as (λ _. nat_eq k (p % 64) ≡ nat_eq (64 * (p / 64) + k) p) [
  | inl e ↦ eq-eqb k (p % 64) e ∙ sym (eq-eqb (64 * (p / 64) + k) p (omega arith))
  | inr e ↦ ne_eqb k (p % 64) e ∙ sym (ne_eqb (64 * (p / 64) + k) p (λ f. e (omega arith)))
]

or_swap : (a b : Bool) → (a || b) ≡ (b || a)
or_swap true true = refl
or_swap true false = refl
or_swap false true = refl
or_swap false false = refl

and_swap : (a b : Bool) → (a && b) ≡ (b && a)
and_swap true true = refl
and_swap true false = refl
and_swap false true = refl
and_swap false false = refl

elsewhere : (p q : ℕ) → q / 64 ≢ p / 64 → nat_eq q p ≡ false
elsewhere p q other = ne_eqb q p (λ e. other (ap (λ n. n / 64) e))

pub insert_is : (words : List ℕ) (p : ℕ) → p < 64 * length words
    → members_of (set words (p / 64) (bit_or (slice_index words (p / 64)) (1 * 2 ^ (p % 64) % 2 ^ 64))) ≡ fin.insert (members_of words) p
insert_is words p h = members_from _ _ (written words p _ (λ q. fin.contains (fin.insert (members_of words) p) q) h
    (λ k below.
    let bit : p % 64 < 64 = omega arith in
    is_set-or (slice_index words (p / 64)) (1 * 2 ^ (p % 64) % 2 ^ 64) k
    ∙ ap₂ (λ a b. a || b) (sym (is_place-at words (p / 64) k below)) (is_set-one (p % 64) k bit ∙ same_place p k below)
    ∙ or_swap (is_place words (64 * (p / 64) + k)) (nat_eq (64 * (p / 64) + k) p)
    ∙ ap (λ b. nat_eq (64 * (p / 64) + k) p || b) (sym (contains-members_of words (64 * (p / 64) + k)))
    ∙ sym (contains-insert (members_of words) p (64 * (p / 64) + k)))
    (λ q other. sym (contains-insert (members_of words) p q ∙ ap₂ (λ a b. a || b) (elsewhere p q other) (contains-members_of words q))))

pub remove_is : (words : List ℕ) (p : ℕ) → p < 64 * length words
    → members_of (set words (p / 64) (bit_and (slice_index words (p / 64)) (2 ^ 64 - 1 - 1 * 2 ^ (p % 64) % 2 ^ 64))) ≡ fin.remove
    (members_of words) p
remove_is words p h = members_from _ _ (written words p _ (λ q. fin.contains (fin.remove (members_of words) p) q) h
    (λ k below.
    let bit : p % 64 < 64 = omega arith in
    is_set-and (slice_index words (p / 64)) (2 ^ 64 - 1 - 1 * 2 ^ (p % 64) % 2 ^ 64) k
    ∙ ap₂ (λ a b. a && b) (sym (is_place-at words (p / 64) k below))
    (is_set-not _ k (one_below (p % 64) bit) below ∙ ap not (is_set-one (p % 64) k bit ∙ same_place p k below))
    ∙ and_swap (is_place words (64 * (p / 64) + k)) (not (nat_eq (64 * (p / 64) + k) p))
    ∙ ap (λ b. not (nat_eq (64 * (p / 64) + k) p) && b) (sym (contains-members_of words (64 * (p / 64) + k)))
    ∙ sym (contains-remove (members_of words) p (64 * (p / 64) + k)))
    (λ q other. sym (contains-remove (members_of words) p q ∙ ap₂ (λ a b. not a && b) (elsewhere p q other) (contains-members_of words q))))

-- the bit of a place that isn't there is written as told
pub bit_is : (b : Bool) (n : ℕ) (words : List ℕ) (p : ℕ) → p < 64 * length words → (b ≡ true → n ≡ 1) → (b ≡ false → n ≡ 0)
    → members_of (set words (p / 64) (bit_or (slice_index words (p / 64)) (n * 2 ^ (p % 64) % 2 ^ 64)))
    ≡ cond b (fin.insert (members_of words) p) (members_of words)
bit_is true n words p h one none = rw (one refl) (insert_is words p h)
bit_is false n words p h one none = ap members_of (ap (set words (p / 64)) same ∙ set-get_or words (p / 64) 0)
  where
    zero_bit : n * 2 ^ (p % 64) % 2 ^ 64 ≡ 0
    zero_bit = rw (none refl) (omega arith)

    same : bit_or (slice_index words (p / 64)) (n * 2 ^ (p % 64) % 2 ^ 64) ≡ slice_index words (p / 64)
    same = ap (bit_or (slice_index words (p / 64))) zero_bit ∙ or_comm (slice_index words (p / 64)) 0

pub written_here : (b : Bool) (s : fin.FinSet nat_cmp) (p : ℕ)
    → fin.contains (cond b (fin.insert (fin.remove s p) p) (fin.remove s p)) p ≡ b
written_here true s p = insert_here (fin.remove s p) p
written_here false s p = remove_here s p

pub written_other : (b : Bool) (s : fin.FinSet nat_cmp) (p q : ℕ) → (q ≡ p → ⊥)
    → fin.contains (cond b (fin.insert (fin.remove s p) p) (fin.remove s p)) q ≡ fin.contains s q
written_other true s p q ne = insert_other (fin.remove s p) p q ne ∙ remove_other s p q ne
written_other false s p q ne = remove_other s p q ne

pub has_is : (words : List ℕ) (p : ℕ) → nat_eq (bit_and (slice_index words (p / 64) / 2 ^ (p % 64)) 1) 1 ≡ fin.contains (members_of words) p
has_is words p = ap (λ n. nat_eq n 1) (shr_and_one (slice_index words (p / 64)) (p % 64)) ∙ sym (contains-members_of words p)

-- a word that a place of 64 bits lies in is written
pub AreWords-set : (w : ℕ) (words : List ℕ) (p v : ℕ) → AreWords w words → p < 64 * w → p < 2 ^ 64 → v < 2 ^ 64 → AreWords w (set words (p / 64) v)
AreWords-set w words p v h inside fits below = record {
  long = length-set words (p / 64) v ∙ h.long;
  fit = λ i. elim (cases_eq i (p / 64)) as (λ _. slice_index (set words (p / 64) v) i < 2 ^ 64) [
    | inl e ↦ let here : p / 64 < length words = omega (arith, h.long) in rw (e, get_or-set_same words (p / 64) v 0 here) below
    | inr e ↦ rw (get_or-set_other words (p / 64) i v 0 e) (h.fit i)
  ];
  empty_behind = λ i far. get_or-set_other words (p / 64) i v 0 (λ e. omega arith) ∙ h.empty_behind i far;
}

-- ---- all words

pub empty_is : (w : ℕ) → members_of (replicate w 0) ≡ fin.empty
empty_is w = members_from _ _ (λ q. ap (λ n. is_set n (q % 64)) (zeros w (q / 64)) ∙ is_set-zero (q % 64) ∙ sym (contains-empty q))

-- w words: up to word i those that f makes of two lists, and from there on those of the first
pub record MadeUpTo (f : ℕ → ℕ → ℕ) (w : ℕ) (xs ys words : List ℕ) (i : ℕ) : Type 0 where
  pub long : length words ≡ w
  pub made : (k : ℕ) → k < i → slice_index words k ≡ f (slice_index xs k) (slice_index ys k)
  pub rest : (k : ℕ) → i ≤ k → slice_index words k ≡ slice_index xs k

module _ (f : ℕ → ℕ → ℕ) where
  pub MadeUpTo-more : (w : ℕ) (xs ys words : List ℕ) (i : ℕ) → i < w → MadeUpTo f w xs ys words i
      → MadeUpTo f w xs ys (set words i (f (slice_index words i) (slice_index ys i))) (i + 1)
  MadeUpTo-more w xs ys words i h so_far = record {
    long = length-set words i _ ∙ so_far.long;
    made = below_more (λ k. slice_index (set words i (f (slice_index words i) (slice_index ys i))) k ≡ f (slice_index xs k) (slice_index ys k)) i
        (λ k below. get_or-set_other words i k _ 0 (λ e. omega arith) ∙ so_far.made k below)
        (get_or-set_same words i _ 0 (omega (arith, so_far.long)) ∙ ap (λ n. f n (slice_index ys i)) (so_far.rest i (omega arith)));
    rest = λ k behind. get_or-set_other words i k _ 0 (λ e. omega arith) ∙ so_far.rest k (omega arith);
  }

  -- where f leaves two empty words empty, all words are made
  pub MadeUpTo-all : f 0 0 ≡ 0 → (w n : ℕ) (xs ys words : List ℕ) → AreWords w xs → AreWords w ys → w ≤ n → MadeUpTo f w xs ys words n → (i : ℕ)
      → slice_index words i ≡ f (slice_index xs i) (slice_index ys i)
  MadeUpTo-all none w n xs ys words h k end all i =
      elim (cases_lt i w) as (λ _. slice_index words i ≡ f (slice_index xs i) (slice_index ys i)) [
        | inl below ↦ all.made i (omega arith)
        | inr behind ↦
            get_or_past words i 0 (omega (arith, all.long)) ∙ sym none
            ∙ ap₂ f (sym (get_or_past xs i 0 (omega (arith, h.long)))) (sym (get_or_past ys i 0 (omega (arith, k.long))))
      ]

  pub MadeUpTo-words : f 0 0 ≡ 0 → ((x y : ℕ) → x < 2 ^ 64 → y < 2 ^ 64 → f x y < 2 ^ 64) → (w n : ℕ) (xs ys words : List ℕ) → AreWords w xs
      → AreWords w ys → w ≤ n → MadeUpTo f w xs ys words n → AreWords w words
  MadeUpTo-words none small w n xs ys words h k end all = record {
    long = all.long;
    fit = λ i. rw (MadeUpTo-all none w n xs ys words h k end all i) (small _ _ (h.fit i) (k.fit i));
    empty_behind = λ i far. MadeUpTo-all none w n xs ys words h k end all i ∙ ap₂ f (h.empty_behind i far) (k.empty_behind i far) ∙ none;
  }

pub union_is : (xs ys words : List ℕ) → ((i : ℕ) → slice_index words i ≡ bit_or (slice_index xs i) (slice_index ys i))
    → members_of words ≡ fin.union (members_of xs) (members_of ys)
union_is xs ys words made = members_from _ _ (λ q.
    ap (λ n. is_set n (q % 64)) (made (q / 64)) ∙ is_set-or (slice_index xs (q / 64)) (slice_index ys (q / 64)) (q % 64)
    ∙ sym (contains-union (members_of xs) (members_of ys) q ∙ ap₂ (λ a b. a || b) (contains-members_of xs q) (contains-members_of ys q)))

pub meet_is : (xs ys words : List ℕ) → ((i : ℕ) → slice_index words i ≡ bit_and (slice_index xs i) (slice_index ys i))
    → members_of words ≡ fin.intersection (members_of xs) (members_of ys)
meet_is xs ys words made = members_from _ _ (λ q.
    ap (λ n. is_set n (q % 64)) (made (q / 64)) ∙ is_set-and (slice_index xs (q / 64)) (slice_index ys (q / 64)) (q % 64)
    ∙ sym (contains-intersection (members_of xs) (members_of ys) q ∙ ap₂ (λ a b. a && b) (contains-members_of xs q) (contains-members_of ys q)))

-- the bits of the first word that the second has not
abbrev pub without : ℕ → ℕ → ℕ
without x y = bit_and x (2 ^ 64 - 1 - y)

is_set-without : (w : ℕ) (ys : List ℕ) (x q : ℕ) → AreWords w ys
    → is_set (without x (slice_index ys (q / 64))) (q % 64) ≡ (is_set x (q % 64) && not (is_place ys q))
is_set-without w ys x q h =
    is_set-and x (2 ^ 64 - 1 - slice_index ys (q / 64)) (q % 64)
    ∙ ap (λ b. is_set x (q % 64) && b) (is_set-not (slice_index ys (q / 64)) (q % 64) (h.fit (q / 64)) (omega arith))

pub minus_is : (w : ℕ) (xs ys words : List ℕ) → AreWords w ys → ((i : ℕ) → slice_index words i ≡ without (slice_index xs i) (slice_index ys i))
    → members_of words ≡ fin.difference (members_of xs) (members_of ys)
minus_is w xs ys words h made = members_from _ _ (λ q.
    ap (λ n. is_set n (q % 64)) (made (q / 64)) ∙ is_set-without w ys (slice_index xs (q / 64)) q h
    ∙ sym (contains-difference (members_of xs) (members_of ys) q ∙ ap₂ (λ a b. a && not b) (contains-members_of xs q) (contains-members_of ys q)))

-- ---- subsets

both_so : (a b : Bool) → a ≡ true → (a && not b) ≡ false → b ≡ true
both_so a true p e = refl
both_so a false p e = absurd (true≢false (sym (ap (λ x. x && true) p) ∙ e))

pub subset_is : (w : ℕ) (xs ys : List ℕ) → AreWords w xs → AreWords w ys
    → ((i : ℕ) → i < w → without (slice_index xs i) (slice_index ys i) ≡ 0) → fin.is_subset (members_of xs) (members_of ys) ≡ true
subset_is w xs ys h k none = fin.contains-is_subset nat_cmp_total (members_of xs) (members_of ys) (λ q e.
    let inside : q < 64 * w = members_of-within w xs h.long q e in
    let here : is_place xs q ≡ true = sym (contains-members_of xs q) ∙ e in
    contains-members_of ys q
    ∙ both_so (is_place xs q) (is_place ys q) here
    (sym (is_set-without w ys (slice_index xs (q / 64)) q k) ∙ ap (λ n. is_set n (q % 64)) (none (q / 64) (omega arith)) ∙ is_set-zero (q % 64)))

-- a word that is not empty has its lowest bit set, and none below it
lowest : (n : ℕ) → n ≢ 0 → n < 2 ^ 64
    → (trailing_zeros w64 n < 64) × (is_set n (trailing_zeros w64 n) ≡ true) × ((k : ℕ) → k < trailing_zeros w64 n → is_set n k ≡ false)
lowest n some fits =
    let at : (trailing_zeros w64 n < 64) × (bit_at n (trailing_zeros w64 n) ≡ 1) × ((i : ℕ) → i < trailing_zeros w64 n → bit_at n i ≡ 0) =
    bit_at-trailing_zeros w64 n (omega arith) fits in
    (at.0, ap (λ m. nat_eq m 1) at.1, λ k h. ap (λ m. nat_eq m 1) (at.2 k h))

pub not_subset_is : (w i : ℕ) (xs ys : List ℕ) → AreWords w ys → without (slice_index xs i) (slice_index ys i) ≢ 0
    → without (slice_index xs i) (slice_index ys i) < 2 ^ 64 → fin.is_subset (members_of xs) (members_of ys) ≡ false
not_subset_is w i xs ys h some fits =
    let low : (trailing_zeros w64 (without (slice_index xs i) (slice_index ys i)) < 64)
    × (is_set (without (slice_index xs i) (slice_index ys i)) (trailing_zeros w64 (without (slice_index xs i) (slice_index ys i))) ≡ true)
    × ((k : ℕ) → k < trailing_zeros w64 (without (slice_index xs i) (slice_index ys i))
    → is_set (without (slice_index xs i) (slice_index ys i)) k ≡ false) = lowest _ some fits in
    apart (trailing_zeros w64 (without (slice_index xs i) (slice_index ys i))) low.0 low.1
  where
    apart : (k : ℕ) → k < 64 → is_set (without (slice_index xs i) (slice_index ys i)) k ≡ true → fin.is_subset (members_of xs) (members_of ys) ≡ false
    apart k below here =
        let parts : (is_set (slice_index xs i) k ≡ true)
        × (is_set (2 ^ 64 - 1 - slice_index ys i) k ≡ true) = and_parts _ _
        (sym (is_set-and (slice_index xs i) (2 ^ 64 - 1 - slice_index ys i) k) ∙ here) in
        let absent : is_set (slice_index ys i) k ≡ false = false_from_not _ (sym (is_set-not (slice_index ys i) k (h.fit i) below) ∙ parts.1) in
        false_from_ne_true _ (λ e. true≢false (
        sym (fin.is_subset-contains nat_cmp_total (members_of xs) (members_of ys) e (64 * i + k)
        (contains-members_of xs (64 * i + k) ∙ is_place-at xs i k below ∙ parts.0))
        ∙ contains-members_of ys (64 * i + k) ∙ is_place-at ys i k below ∙ absent))

-- ---- the least place

pub least_is : (w i : ℕ) (words : List ℕ) → AreWords w words → ((k : ℕ) → k < i → slice_index words k ≡ 0) → slice_index words i ≢ 0
    → IsLeast (members_of words) (64 * i + trailing_zeros w64 (slice_index words i))
least_is w i words h none some =
    let low : (trailing_zeros w64 (slice_index words i) < 64) × (is_set (slice_index words i) (trailing_zeros w64 (slice_index words i)) ≡ true)
    × ((k : ℕ) → k < trailing_zeros w64 (slice_index words i) → is_set (slice_index words i) k ≡ false) = lowest _ some (h.fit i) in
    record {
      member = contains-members_of words _ ∙ is_place-at words i _ low.0 ∙ low.1;
      below = λ q e. elim (cases_lt q (64 * i + trailing_zeros w64 (slice_index words i))) as (λ _. 64 * i + trailing_zeros w64 (slice_index words i) ≤ q) [
        | inr h ↦ h
        | inl before ↦ absurd (true≢false (sym e ∙ contains-members_of words q ∙ elim (cases_lt (q / 64) i) as (λ _. is_place words q ≡ false) [
          | inl earlier ↦ ap (λ n. is_set n (q % 64)) (none (q / 64) earlier) ∙ is_set-zero (q % 64)
          | inr here ↦
              let same : q / 64 ≡ i = omega (arith, low.0) in
              ap (λ n. is_set (slice_index words n) (q % 64)) same ∙ low.2 (q % 64) (omega arith)
        ]))
      ];
    }

pub none_is : (w : ℕ) (words : List ℕ) → length words ≡ w → ((k : ℕ) → k < w → slice_index words k ≡ 0) → members_of words ≡ fin.empty
none_is w words long none = members_from _ _ (λ q. elim (cases_lt (q / 64) w) as (λ _. is_place words q ≡ fin.contains {R = nat_cmp} fin.empty q) [
  | inl h ↦ ap (λ n. is_set n (q % 64)) (none (q / 64) h) ∙ is_set-zero (q % 64) ∙ sym (contains-empty q)
  | inr h ↦ is_place-past words q (omega arith) ∙ sym (contains-empty q)
])

-- ---- the greatest place

-- a word that is not empty has its highest bit set, and none above it
highest : (n : ℕ) → n ≢ 0 → n < 2 ^ 64 → (leading_zeros w64 n < 64) × (is_set n (63 - leading_zeros w64 n) ≡ true)
    × ((k : ℕ) → 63 - leading_zeros w64 n < k → is_set n k ≡ false)
highest n some fits =
    let top : (j : ℕ) × (leading_zeros w64 n + suc j ≡ 64) × (2 ^ j ≤ n) × (n < 2 ^ suc j) = leading_top 64 n (omega arith) fits in
    let is : 63 - leading_zeros w64 n ≡ top.0 = omega (arith, top.1) in
    let none : top.0 - top.0 ≡ 0 = omega arith in
    let rest : n ≡ 1 * 2 ^ top.0 + (n - 2 ^ top.0) = omega (arith, top.2) in
    let one : bit_at n top.0 ≡ 1 = ap (λ m. bit_at m top.0) rest ∙ bit_at_cat_high 1 top.0 (n - 2 ^ top.0) top.0 (omega (arith, top.2, top.3)) (omega arith)
    ∙ ap (bit_at 1) none ∙ bit_at-pow_same 0 in (
      omega (arith, top.1),
      ap (is_set n) is ∙ ap (λ m. nat_eq m 1) one,
      λ k h. ap (λ m. nat_eq m 1) (bit_at_above n (suc top.0) k top.3 (omega (arith, is, h))),
    )

pub greatest_is : (w i : ℕ) (words : List ℕ) → AreWords w words → ((k : ℕ) → i < k → slice_index words k ≡ 0) → slice_index words i ≢ 0
    → (fin.contains (members_of words) (64 * i + (63 - leading_zeros w64 (slice_index words i))) ≡ true)
    × ((q : ℕ) → fin.contains (members_of words) q ≡ true → q ≤ 64 * i + (63 - leading_zeros w64 (slice_index words i)))
greatest_is w i words h none some =
    let high = highest (slice_index words i) some (h.fit i) in (
      contains-members_of words _ ∙ is_place-at words i _ (omega arith) ∙ high.1,
      λ q e. elim (cases_lt (64 * i + (63 - leading_zeros w64 (slice_index words i))) q) as (λ _. q ≤ 64 * i + (63 - leading_zeros w64 (slice_index words i))) [
        | inr below ↦ below
        | inl above ↦ absurd (true≢false (sym e ∙ contains-members_of words q ∙ elim (cases_lt i (q / 64)) as (λ _. is_place words q ≡ false) [
          | inl later ↦ ap (λ n. is_set n (q % 64)) (none (q / 64) later) ∙ is_set-zero (q % 64)
          | inr here ↦
              let same : q / 64 ≡ i = omega (arith, high.0) in
              ap (λ n. is_set (slice_index words n) (q % 64)) same ∙ high.2 (q % 64) (omega arith)
        ]))
      ],
    )

-- ---- words that are filled by a test

-- w words: before word i with the bits of the places that pass, and empty from there on
pub record FilledUpTo (f : ℕ → Bool) (w : ℕ) (words : List ℕ) (i : ℕ) : Type 0 where
  pub long : length words ≡ w
  pub fit : (j : ℕ) → slice_index words j < 2 ^ 64
  pub low : (j : ℕ) → j < i → (k : ℕ) → k < 64 → is_set (slice_index words j) k ≡ f (64 * j + k)
  pub rest : (j : ℕ) → i ≤ j → slice_index words j ≡ 0

module _ (f : ℕ → Bool) (w : ℕ) where
  -- empty words, where nothing passes before word i
  pub FilledUpTo-start : (i : ℕ) → ((q : ℕ) → q < 64 * i → f q ≡ false) → FilledUpTo f w (replicate w 0) i
  FilledUpTo-start i none = record {
    long = length-replicate {A = ℕ} w 0;
    fit = λ j. rw (zeros w j) (omega arith);
    low = λ j h k bit. ap (λ m. is_set m k) (zeros w j) ∙ is_set-zero k ∙ sym (none (64 * j + k) (omega arith));
    rest = λ j h. zeros w j;
  }

  pub FilledUpTo-more : (words : List ℕ) (i v : ℕ) → i < w → v < 2 ^ 64 → FilledUpTo f w words i
      → ((k : ℕ) → k < 64 → is_set v k ≡ f (64 * i + k)) → FilledUpTo f w (set words i v) (i + 1)
  FilledUpTo-more words i v h small so_far here = record {
    long = length-set words i v ∙ so_far.long;
    fit = λ j. elim (cases_eq j i) as (λ _. slice_index (set words i v) j < 2 ^ 64) [
      | inl e ↦ let inside : i < length words = omega (arith, so_far.long) in rw (e, get_or-set_same words i v 0 inside) small
      | inr e ↦ rw (get_or-set_other words i j v 0 e) (so_far.fit j)
    ];
    low = below_more (λ j. (k : ℕ) → k < 64 → is_set (slice_index (set words i v) j) k ≡ f (64 * j + k)) i
        (λ j below k bit. ap (λ m. is_set m k) (get_or-set_other words i j v 0 (λ e. omega arith)) ∙ so_far.low j below k bit)
        (λ k bit. ap (λ m. is_set m k) (get_or-set_same words i v 0 (omega (arith, so_far.long))) ∙ here k bit);
    rest = λ j behind. get_or-set_other words i j v 0 (λ e. omega arith) ∙ so_far.rest j (omega arith);
  }

  -- where nothing passes from word i on, the places are those that pass
  pub filled_is : (i : ℕ) (words : List ℕ) → ((q : ℕ) → 64 * i ≤ q → f q ≡ false) → FilledUpTo f w words i → (q : ℕ) → is_place words q ≡ f q
  filled_is i words none all q = elim (cases_lt (q / 64) i) as (λ _. is_place words q ≡ f q) [
    | inl h ↦ all.low (q / 64) h (q % 64) (omega arith) ∙ ap f (split_place q)
    | inr h ↦ ap (λ n. is_set n (q % 64)) (all.rest (q / 64) h) ∙ is_set-zero (q % 64) ∙ sym (none q (omega arith))
  ]

  pub AreWords-filled : (i : ℕ) (words : List ℕ) → ((q : ℕ) → 2 ^ 64 ≤ q → f q ≡ false) → FilledUpTo f w words i → AreWords w words
  AreWords-filled i words none all = record {
    long = all.long;
    fit = all.fit;
    empty_behind = λ j far. elim (cases_lt j i) as (λ _. slice_index words j ≡ 0) [
      | inl h ↦ same_from_set 64 (slice_index words j) 0 (all.fit j) (omega arith)
          (λ k bit. all.low j h k bit ∙ none (64 * j + k) (omega arith) ∙ sym (is_set-zero k))
      | inr h ↦ all.rest j h
    ];
  }

-- ---- the first places

pub first_is : (w m n : ℕ) (words : List ℕ) → n ≤ 64 * w → w ≤ m → FilledUpTo (λ q. nat_lt q n) w words m → members_of words ≡ first_places n
first_is w m n words within end all = members_from _ _ (λ q.
    filled_is (λ q. nat_lt q n) w m words (λ q far. le-ltb q n (omega arith)) all q ∙ sym (contains-first_places n q))

-- the words of the three forms
pub full_word : (i n k : ℕ) → k < 64 → i < n / 64 → is_set (2 ^ 64 - 1) k ≡ nat_lt (64 * i + k) n
full_word i n k bit h = ap (λ m. nat_eq m 1) (bit_at_ones 64 k bit) ∙ sym (lt-ltb (64 * i + k) n (omega arith))

pub part_word : (i n k : ℕ) → k < 64 → i ≡ n / 64 → is_set (1 * 2 ^ (n % 64) % 2 ^ 64 - 1) k ≡ nat_lt (64 * i + k) n
part_word i n k bit e =
    ap (λ m. is_set (m - 1) k) (one_shl (n % 64) 64 (omega arith))
    ∙ elim (cases_lt k (n % 64)) as (λ _. is_set (2 ^ (n % 64) - 1) k ≡ nat_lt (64 * i + k) n) [
      | inl h ↦ ap (λ m. nat_eq m 1) (bit_at_ones (n % 64) k h) ∙ sym (lt-ltb (64 * i + k) n (omega arith))
      | inr h ↦ ap (λ m. nat_eq m 1) (bit_at_ones_above (n % 64) k h) ∙ sym (le-ltb (64 * i + k) n (omega arith))
    ]

pub or_small : (x y : ℕ) → x < 2 ^ 64 → y < 2 ^ 64 → bit_or x y < 2 ^ 64
or_small x y h k = or_lt 64 x y h k

pub and_small : (x y : ℕ) → x < 2 ^ 64 → y < 2 ^ 64 → bit_and x y < 2 ^ 64
and_small x y h k = lt_of_le_of_lt (and_le_l x y) h

pub without_small : (x y : ℕ) → x < 2 ^ 64 → y < 2 ^ 64 → without x y < 2 ^ 64
without_small x y h k = lt_of_le_of_lt (and_le_l x (2 ^ 64 - 1 - y)) h
