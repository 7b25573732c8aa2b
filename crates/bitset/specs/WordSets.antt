-- What is done with words is done with the sets that they stand for.
use Rattle.std.proofs.Common.{◌≡◌, ℕ, ◌+◌, ◌*◌, ◌/◌, ◌%◌, ◌<◌, ◌≤◌, false, ◌&&◌, nat_lt, List, length, slice_index, inl, inr, refl, sym, ap, ◌∙◌, arith, lt-ltb, le-ltb}
use Rattle.std.proofs.lemmas.Bool.{cases_lt}
use Rattle.std.proofs.lemmas.List.{get_or_past}
use Rattle.std.proofs.lemmas.List.FromFn.{fill_by_all}
use Rattle.std.specs.Ordering.{nat_cmp}
use Rattle.std.specs.FinSet as fin
use Rattle.bitset.specs.Words.{is_set, is_place, members_of, number_of, words_of, AreWords}
use Rattle.bitset.specs.OneBit.{is_set-zero, is_set-number_of, number_of_lt, same_from_set}
use Rattle.bitset.specs.Sets.{contains-where_below, same_members}

-- no place lies behind the words
pub is_place-past : (words : List ℕ) (q : ℕ) → 64 * length words ≤ q → is_place words q ≡ false
is_place-past words q h =
    let far : length words ≤ q / 64 = omega arith in
    ap (λ n. is_set n (q % 64)) (get_or_past words (q / 64) 0 far) ∙ is_set-zero (q % 64)

pub contains-members_of : (words : List ℕ) (q : ℕ) → fin.contains (members_of words) q ≡ is_place words q
unfolding members_of
contains-members_of words q =
    contains-where_below (is_place words) (64 * length words) q
    ∙ elim (cases_lt q (64 * length words)) as (λ _. (nat_lt q (64 * length words) && is_place words q) ≡ is_place words q) [
      | inl h ↦ ap (λ b. b && is_place words q) (lt-ltb q (64 * length words) h)
      | inr h ↦ ap (λ b. b && is_place words q) (le-ltb q (64 * length words) h) ∙ sym (is_place-past words q h)
    ]

-- words stand for the set whose members are their places
pub members_from : (words : List ℕ) (s : fin.FinSet nat_cmp) → ((q : ℕ) → is_place words q ≡ fin.contains s q) → members_of words ≡ s
members_from words s same = same_members (members_of words) s (λ q. contains-members_of words q ∙ same q)

-- bit k of word i is place 64 i + k
pub is_place-at : (words : List ℕ) (i k : ℕ) → k < 64 → is_place words (64 * i + k) ≡ is_set (slice_index words i) k
is_place-at words i k h =
    let word : (64 * i + k) / 64 ≡ i = omega arith in
    let bit : (64 * i + k) % 64 ≡ k = omega arith in
    rw (word, bit) refl

word_is : (w : ℕ) (words : List ℕ) (h : AreWords w words) (i : ℕ) → slice_index words i ≡ number_of (λ k. fin.contains (members_of words) (64 * i + k)) 64
word_is w words h i = same_from_set 64 _ _ (h.fit i) (number_of_lt _ 64) (λ k below.
    sym (is_set-number_of (λ k. fin.contains (members_of words) (64 * i + k)) 64 k below
    ∙ contains-members_of words (64 * i + k) ∙ is_place-at words i k below))

pub words_of-members_of : (w : ℕ) (words : List ℕ) → AreWords w words → words_of w (members_of words) ≡ words
unfolding words_of
words_of-members_of w words h =
    sym (fill_by_all (λ i. number_of (λ k. fin.contains (members_of words) (64 * i + k)) 64) words w 0 h.long (λ i _. word_is w words h i))
