-- How many places a set has, by the count of each word's bits.
use Rattle.std.proofs.Common.{◌≡◌, ℕ, zero, suc, ◌+◌, ◌-◌, ◌*◌, ◌/◌, ◌%◌, ◌^◌, ◌<◌, ◌≤◌, Bool, cond, nat_eq, List, length, slice_index, refl, sym, ap, ap₂, ◌∙◌, arith, add-suc, pow_pos, add-zero, one-add, mod-eq_of_lt}
use Rattle.std.specs.Int.Count.{ones}
use Rattle.std.proofs.lemmas.Nat.{ones_cat, shr_split, mod_below, shr_below}
use Rattle.std.specs.FinSet as fin
use Rattle.std.specs.Int.{bit_at}
use Rattle.std.proofs.lemmas.Nat.Bits.{bit_at_cat_low, bit_at_cat_high, bit_at_lowest}
use Rattle.bitset.specs.Places.{where_below}
use Rattle.bitset.specs.Sets.{len-where_below-suc}
use Rattle.bitset.specs.WordSets.{is_place-at}
use Rattle.bitset.specs.Words.{is_set, is_place, members_of, AreWords}

bit_count : (b : ℕ) → b < 2 → ones b ≡ cond (nat_eq b 1) 1 0
unfolding ones
bit_count zero h = refl
bit_count (suc zero) h = refl
bit_count (suc (suc b)) h = absurd (omega arith)

-- d more places, which are the bits of v
pub len-where_below-add : (f : ℕ → Bool) (n d v : ℕ) → v < 2 ^ d → ((k : ℕ) → k < d → f (n + k) ≡ is_set v k)
    → fin.len (where_below f (n + d)) ≡ fin.len (where_below f n) + ones v
len-where_below-add f n zero v h same = let none : v ≡ 0 = omega arith in
    rw (none, add-zero) (sym (ap (λ m. fin.len (where_below f n) + m) (bit_count 0 (omega arith)) ∙ add-zero _))
len-where_below-add f n (suc d) v h same =
    ap (λ m. fin.len (where_below f m)) (add-suc n d)
    ∙ len-where_below-suc f (n + d)
    ∙ ap₂ (λ a b. a + b) top (len-where_below-add f n d (v % 2 ^ d) below
    (λ k bit. same k (omega arith) ∙ ap (λ m. is_set m k) (sym (shr_split v d)) ∙ ap (λ m. nat_eq m 1) (bit_at_cat_low (v / 2 ^ d) d (v % 2 ^ d) k bit)))
    ∙ omega (arith, ap ones (sym (shr_split v d)) ∙ ones_cat d (v / 2 ^ d) (v % 2 ^ d) below)
  where
    below : v % 2 ^ d < 2 ^ d
    below = mod_below v (2 ^ d) (pow_pos d)

    small : v / 2 ^ d < 2
    small = let twice : v < 2 ^ (1 + d) = rw one-add h in shr_below v 1 d twice

    top : cond (f (n + d)) 1 0 ≡ ones (v / 2 ^ d)
    top =
        let none : d - d ≡ 0 = omega arith in
        ap (λ b. cond b 1 0) (same d (omega arith) ∙ ap (λ m. is_set m d) (sym (shr_split v d))
        ∙ ap (λ m. nat_eq m 1) (bit_at_cat_high (v / 2 ^ d) d (v % 2 ^ d) d below (omega arith)
        ∙ ap (λ i. bit_at (v / 2 ^ d) i) none ∙ bit_at_lowest (v / 2 ^ d) ∙ mod-eq_of_lt small))
        ∙ sym (bit_count (v / 2 ^ d) small)

-- one more word
pub len-where_below-word : (w : ℕ) (words : List ℕ) (i : ℕ) → AreWords w words
    → fin.len (where_below (is_place words) (64 * (i + 1))) ≡ fin.len (where_below (is_place words) (64 * i)) + ones (slice_index words i)
len-where_below-word w words i h =
    ap (λ m. fin.len (where_below (is_place words) m)) (omega arith)
    ∙ len-where_below-add (is_place words) (64 * i) 64 (slice_index words i) (h.fit i) (λ k bit. is_place-at words i k bit)

-- all words
pub len-members_of : (w i : ℕ) (words : List ℕ) → length words ≡ w → w ≤ i → i ≤ w
    → fin.len (where_below (is_place words) (64 * i)) ≡ fin.len (members_of words)
unfolding members_of
len-members_of w i words long end within = ap (λ n. fin.len (where_below (is_place words) (64 * n))) (omega arith)
