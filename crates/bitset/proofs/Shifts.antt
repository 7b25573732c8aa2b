-- Words that are shifted, and the places of words that are shifted as one row of bits.
use Rattle.std.proofs.Common.{◌≡◌, ℕ, ◌+◌, ◌-◌, ◌*◌, ◌/◌, ◌%◌, ◌^◌, ◌<◌, ◌≤◌, Bool, true, false, not, ◌&&◌, ◌||◌, ◌⊎◌, nat_eq, nat_lt, List, length, bit_or, slice_index, inl, inr, sym, ap, ap₂, ◌∙◌, arith, lt-ltb, le-ltb, add-zero, pow_pos}
use Rattle.std.proofs.Math.Bool.{or-false, and-false}
use Rattle.std.proofs.lemmas.Bool.{cases_lt, false_from_ne_true}
use Rattle.std.proofs.lemmas.Nat.{shr_split, mod_below}
use Rattle.std.proofs.lemmas.Nat.Bits.{bit_at_above, bit_at_cat_low, bit_at_cat_high}
use Rattle.bitset.specs.Words.{is_set, is_place, AreWords}
use Rattle.bitset.specs.OneBit.{is_set-zero, is_set-or}
use Rattle.bitset.specs.WordSets.{is_place-past, is_place-at}

is_set-above : (n k : ℕ) → n < 2 ^ 64 → 64 ≤ k → is_set n k ≡ false
is_set-above n k h far = ap (λ m. nat_eq m 1) (bit_at_above n 64 k h far)

-- bit k of a word that is shifted right is one that was higher
is_set-shr : (n s k : ℕ) → is_set (n / 2 ^ s) k ≡ is_set n (k + s)
is_set-shr n s k =
    let back : k + s - s ≡ k = omega arith in
    sym (
    ap (λ m. is_set m (k + s)) (sym (shr_split n s))
    ∙ ap (λ m. nat_eq m 1) (bit_at_cat_high (n / 2 ^ s) s (n % 2 ^ s) (k + s) (mod_below n (2 ^ s) (pow_pos s)) (omega arith))
    ∙ ap (is_set (n / 2 ^ s)) back)

-- bit k of a word that is shifted left is one that was lower, or none
is_set-shl : (n s k : ℕ) → k < 64 → is_set (n * 2 ^ s % 2 ^ 64) k ≡ is_set (n * 2 ^ s + 0) k
is_set-shl n s k h =
    sym (
    ap (λ m. is_set m k) (add-zero (n * 2 ^ s) ∙ sym (shr_split (n * 2 ^ s) 64))
    ∙ ap (λ m. nat_eq m 1) (bit_at_cat_low (n * 2 ^ s / 2 ^ 64) 64 (n * 2 ^ s % 2 ^ 64) k h))

is_set-shl_low : (n s k : ℕ) → k < 64 → k < s → is_set (n * 2 ^ s % 2 ^ 64) k ≡ false
is_set-shl_low n s k h low = is_set-shl n s k h ∙ ap (λ m. nat_eq m 1) (bit_at_cat_low n s 0 k low) ∙ is_set-zero k

is_set-shl_high : (n s k : ℕ) → k < 64 → s ≤ k → is_set (n * 2 ^ s % 2 ^ 64) k ≡ is_set n (k - s)
is_set-shl_high n s k h high = is_set-shl n s k h ∙ ap (λ m. nat_eq m 1) (bit_at_cat_high n s 0 k (pow_pos s) high)

module _ (words : List ℕ) (fit : (i : ℕ) → slice_index words i < 2 ^ 64) (i by k : ℕ) (inside : k < 64) where
  -- the bits that come from the word itself, where they are moved down
  down_here : k + by < 64 → is_set (slice_index words i / 2 ^ by) k ≡ is_place words (64 * i + k + by)
  down_here near = is_set-shr (slice_index words i) by k ∙ sym (is_place-at words i (k + by) near) ∙ ap (is_place words) (omega arith)

  down_none : 64 ≤ k + by → is_set (slice_index words i / 2 ^ by) k ≡ false
  down_none far = is_set-shr (slice_index words i) by k ∙ is_set-above (slice_index words i) (k + by) (fit i) far

  pub down_alone : (by ≡ 0) ⊎ (length words ≤ i + 1) → is_set (slice_index words i / 2 ^ by) k ≡ is_place words (64 * i + k + by)
  down_alone last = elim (cases_lt (k + by) 64) as (λ _. is_set (slice_index words i / 2 ^ by) k ≡ is_place words (64 * i + k + by)) [
    | inl near ↦ down_here near
    | inr far ↦ down_none far ∙ sym
        (is_place-past words (64 * i + k + by) (elim last as (λ _. 64 * length words ≤ 64 * i + k + by) [ inl e ↦ absurd (omega arith) | inr e ↦ omega arith ]))
  ]

  -- and with those of the next word
  pub down_both : 0 < by → by < 64
      → is_set (bit_or (slice_index words i / 2 ^ by) (slice_index words (i + 1) * 2 ^ (64 - by) % 2 ^ 64)) k ≡ is_place words (64 * i + k + by)
  down_both some most =
      is_set-or (slice_index words i / 2 ^ by) (slice_index words (i + 1) * 2 ^ (64 - by) % 2 ^ 64) k
      ∙ elim (cases_lt (k + by) 64) as (λ _. (is_set (slice_index words i / 2 ^ by) k || is_set (slice_index words (i + 1) * 2 ^ (64 - by) % 2 ^ 64) k)
      ≡ is_place words (64 * i + k + by)) [
        | inl near ↦ ap₂ (λ a b. a || b) (down_here near) (is_set-shl_low (slice_index words (i + 1)) (64 - by) k inside (omega arith))
            ∙ or-false (is_place words (64 * i + k + by))
        | inr far ↦
            ap₂ (λ a b. a || b) (down_none far)
            (is_set-shl_high (slice_index words (i + 1)) (64 - by) k inside (omega arith) ∙ sym (is_place-at words (i + 1) (k - (64 - by)) (omega arith)))
            ∙ ap (is_place words) (omega arith)
      ]

  -- the bits that come from the word itself, where they are moved up
  up_here : by ≤ k → is_set (slice_index words i * 2 ^ by % 2 ^ 64) k ≡ (not (nat_lt (64 * i + k) by) && is_place words (64 * i + k - by))
  up_here near =
      is_set-shl_high (slice_index words i) by k inside near ∙ sym (is_place-at words i (k - by) (omega arith))
      ∙ ap (is_place words) (omega arith)
      ∙ ap (λ b. not b && is_place words (64 * i + k - by)) (sym (le-ltb (64 * i + k) by (omega arith)))

  pub up_alone : (by ≡ 0) ⊎ (i ≡ 0) → is_set (slice_index words i * 2 ^ by % 2 ^ 64) k ≡ (not (nat_lt (64 * i + k) by) && is_place words (64 * i + k - by))
  up_alone first =
      elim (cases_lt k by) as (λ _. is_set (slice_index words i * 2 ^ by % 2 ^ 64) k ≡ (not (nat_lt (64 * i + k) by) && is_place words (64 * i + k - by))) [
        | inl far ↦
            is_set-shl_low (slice_index words i) by k inside far
            ∙ ap (λ b. not b && is_place words (64 * i + k - by))
            (sym (lt-ltb (64 * i + k) by (elim first as (λ _. 64 * i + k < by) [ inl e ↦ absurd (omega arith) | inr e ↦ omega arith ])))
        | inr near ↦ up_here near
      ]

  -- and with those of the word before
  pub up_both : 0 < by → by < 64 → 0 < i → is_set (bit_or (slice_index words i * 2 ^ by % 2 ^ 64) (slice_index words (i - 1) / 2 ^ (64 - by))) k
      ≡ (not (nat_lt (64 * i + k) by) && is_place words (64 * i + k - by))
  up_both some most later =
      is_set-or (slice_index words i * 2 ^ by % 2 ^ 64) (slice_index words (i - 1) / 2 ^ (64 - by)) k
      ∙ elim (cases_lt k by) as (λ _. (is_set (slice_index words i * 2 ^ by % 2 ^ 64) k || is_set (slice_index words (i - 1) / 2 ^ (64 - by)) k)
      ≡ (not (nat_lt (64 * i + k) by) && is_place words (64 * i + k - by))) [
        | inl far ↦
            ap₂ (λ a b. a || b) (is_set-shl_low (slice_index words i) by k inside far)
            (is_set-shr (slice_index words (i - 1)) (64 - by) k ∙ sym (is_place-at words (i - 1) (k + (64 - by)) (omega arith)))
            ∙ ap (is_place words) (omega arith)
            ∙ ap (λ b. not b && is_place words (64 * i + k - by)) (sym (le-ltb (64 * i + k) by (omega arith)))
        | inr near ↦
            ap₂ (λ a b. a || b) (up_here near)
            (is_set-shr (slice_index words (i - 1)) (64 - by) k ∙ is_set-above (slice_index words (i - 1)) (k + (64 - by)) (fit (i - 1)) (omega arith))
            ∙ or-false _
      ]

-- ---- the whole rows

-- the places of words that are moved down, and of words that are moved up below 64 w
abbrev pub lowered_by : ℕ → List ℕ → ℕ → Bool
lowered_by by words q = is_place words (q + by)

abbrev pub raised_by : ℕ → ℕ → List ℕ → ℕ → Bool
raised_by w by words q = nat_lt q (64 * w) && (not (nat_lt q by) && is_place words (q - by))

pub lowered_past : (words : List ℕ) (by i : ℕ) → length words ≤ i → by / 64 ≤ i → (q : ℕ) → 64 * (i - by / 64) ≤ q → lowered_by by words q ≡ false
lowered_past words by i end skipped q far = is_place-past words (q + by) (omega arith)

pub lowered_far : (w : ℕ) (words : List ℕ) (by : ℕ) → AreWords w words → (q : ℕ) → 2 ^ 64 ≤ q → lowered_by by words q ≡ false
lowered_far w words by h q far = ap (λ n. is_set n ((q + by) % 64)) (h.empty_behind ((q + by) / 64) (omega arith)) ∙ is_set-zero ((q + by) % 64)

-- bit k of word i, where whole words are skipped first
pub raised_there : (w : ℕ) (words : List ℕ) (by i k : ℕ) → by / 64 ≤ i → i < w → k < 64
    → (not (nat_lt (64 * (i - by / 64) + k) (by % 64)) && is_place words (64 * (i - by / 64) + k - by % 64)) ≡ raised_by w by words (64 * i + k)
raised_there w words by i k skipped inside bit =
    ap₂ (λ a b. not a && b) short (ap (is_place words) (omega arith))
    ∙ ap (λ b. b && (not (nat_lt (64 * i + k) by) && is_place words (64 * i + k - by))) (sym (lt-ltb (64 * i + k) (64 * w) (omega arith)))
  where
    short : nat_lt (64 * (i - by / 64) + k) (by % 64) ≡ nat_lt (64 * i + k) by
    short = elim (cases_lt (64 * i + k) by) as (λ _. nat_lt (64 * (i - by / 64) + k) (by % 64) ≡ nat_lt (64 * i + k) by) [
      | inl h ↦ lt-ltb (64 * (i - by / 64) + k) (by % 64) (omega arith) ∙ sym (lt-ltb (64 * i + k) by h)
      | inr h ↦ le-ltb (64 * (i - by / 64) + k) (by % 64) (omega arith) ∙ sym (le-ltb (64 * i + k) by h)
    ]

pub raised_below : (w : ℕ) (words : List ℕ) (by : ℕ) (q : ℕ) → q < 64 * (by / 64) → raised_by w by words q ≡ false
raised_below w words by q low = ap (λ b. nat_lt q (64 * w) && (not b && is_place words (q - by))) (lt-ltb q by (omega arith)) ∙ and-false (nat_lt q (64 * w))

pub raised_past : (w : ℕ) (words : List ℕ) (by i : ℕ) → w ≤ i → (q : ℕ) → 64 * i ≤ q → raised_by w by words q ≡ false
raised_past w words by i end q far = ap (λ b. b && (not (nat_lt q by) && is_place words (q - by))) (le-ltb q (64 * w) (omega arith))

pub raised_far : (w : ℕ) (words : List ℕ) (by : ℕ) → ((p : ℕ) → is_place words p ≡ true → p + by < 64 * w → p + by < 2 ^ 64)
    → (q : ℕ) → 2 ^ 64 ≤ q → raised_by w by words q ≡ false
raised_far w words by fits q far =
    elim (cases_lt q (64 * w)) as (λ _. raised_by w by words q ≡ false) [
      | inr out ↦ ap (λ b. b && (not (nat_lt q by) && is_place words (q - by))) (le-ltb q (64 * w) out)
      | inl inside ↦ elim (cases_lt q by) as (λ _. raised_by w by words q ≡ false) [
        | inl low ↦ ap (λ b. nat_lt q (64 * w) && (not b && is_place words (q - by))) (lt-ltb q by low) ∙ and-false (nat_lt q (64 * w))
        | inr high ↦
            ap (λ b. nat_lt q (64 * w) && (not (nat_lt q by) && b))
            (false_from_ne_true _ (λ e. let small : q - by + by < 2 ^ 64 = fits (q - by) e (omega arith) in absurd (omega arith)))
            ∙ ap (λ b. nat_lt q (64 * w) && b) (and-false (not (nat_lt q by))) ∙ and-false (nat_lt q (64 * w))
      ]
    ]

-- the places of words that are below 64 v
abbrev pub kept_below : ℕ → List ℕ → ℕ → Bool
kept_below v words q = nat_lt q (64 * v) && is_place words q

pub kept_there : (v : ℕ) (words : List ℕ) (i k : ℕ) → i < v → k < 64 → is_place words (64 * i + k) ≡ kept_below v words (64 * i + k)
kept_there v words i k inside bit = ap (λ b. b && is_place words (64 * i + k)) (sym (lt-ltb (64 * i + k) (64 * v) (omega arith)))

pub kept_past : (v : ℕ) (words : List ℕ) (i : ℕ) → v ≤ i → (q : ℕ) → 64 * i ≤ q → kept_below v words q ≡ false
kept_past v words i end q far = ap (λ b. b && is_place words q) (le-ltb q (64 * v) (omega arith))

pub kept_far : (v w : ℕ) (words : List ℕ) → AreWords w words → (q : ℕ) → 2 ^ 64 ≤ q → kept_below v words q ≡ false
kept_far v w words h q far =
    ap (λ n. nat_lt q (64 * v) && is_set n (q % 64)) (h.empty_behind (q / 64) (omega arith))
    ∙ ap (λ b. nat_lt q (64 * v) && b) (is_set-zero (q % 64)) ∙ and-false (nat_lt q (64 * v))
