-- One bit of a number, as a test.
use Rattle.std.proofs.Common.{◌≡◌, ℕ, zero, suc, ◌+◌, ◌-◌, ◌*◌, ◌^◌, ◌<◌, min, max, Bool, true, false, cond, not, ◌&&◌, ◌||◌, ◌⊎◌, nat_eq, bit_and, bit_or, inl, inr, refl, sym, ap, ◌∙◌, arith, w64, pow-suc, mod-eq_of_lt}
use Rattle.std.proofs.lemmas.Bool.{cases_eq}
use Rattle.std.proofs.lemmas.Nat.Bits.{bit_at-lt, bit_at_and, bit_at_or, bit_at_not, same_from_bits_below, bit_at_cat_low, bit_at_cat_high, bit_at-zero, bit_at_lowest}
use Rattle.bitset.specs.Words.{is_set, number_of}

zero_or_one : (x : ℕ) → x < 2 → (x ≡ 0) ⊎ (x ≡ 1)
zero_or_one zero h = inl refl
zero_or_one (suc zero) h = inr refl
zero_or_one (suc (suc n)) h = absurd (omega arith)

least_is_and : (x y : ℕ) → x < 2 → y < 2 → nat_eq (min x y) 1 ≡ (nat_eq x 1 && nat_eq y 1)
least_is_and x y p q = elim (zero_or_one x p) as (λ _. nat_eq (min x y) 1 ≡ (nat_eq x 1 && nat_eq y 1)) [
  | inl e ↦ elim (zero_or_one y q) as (λ _. nat_eq (min x y) 1 ≡ (nat_eq x 1 && nat_eq y 1)) [ inl f ↦ rw (e, f) refl | inr f ↦ rw (e, f) refl ]
  | inr e ↦ elim (zero_or_one y q) as (λ _. nat_eq (min x y) 1 ≡ (nat_eq x 1 && nat_eq y 1)) [ inl f ↦ rw (e, f) refl | inr f ↦ rw (e, f) refl ]
]

greatest_is_or : (x y : ℕ) → x < 2 → y < 2 → nat_eq (max x y) 1 ≡ (nat_eq x 1 || nat_eq y 1)
greatest_is_or x y p q = elim (zero_or_one x p) as (λ _. nat_eq (max x y) 1 ≡ (nat_eq x 1 || nat_eq y 1)) [
  | inl e ↦ elim (zero_or_one y q) as (λ _. nat_eq (max x y) 1 ≡ (nat_eq x 1 || nat_eq y 1)) [ inl f ↦ rw (e, f) refl | inr f ↦ rw (e, f) refl ]
  | inr e ↦ elim (zero_or_one y q) as (λ _. nat_eq (max x y) 1 ≡ (nat_eq x 1 || nat_eq y 1)) [ inl f ↦ rw (e, f) refl | inr f ↦ rw (e, f) refl ]
]

other_is_not : (x : ℕ) → x < 2 → nat_eq (1 - x) 1 ≡ not (nat_eq x 1)
other_is_not x p = elim (zero_or_one x p) as (λ _. nat_eq (1 - x) 1 ≡ not (nat_eq x 1)) [ inl e ↦ rw e refl | inr e ↦ rw e refl ]

pub is_set-and : (a b i : ℕ) → is_set (bit_and a b) i ≡ (is_set a i && is_set b i)
is_set-and a b i = ap (λ n. nat_eq n 1) (bit_at_and a b i) ∙ least_is_and _ _ (bit_at-lt a i) (bit_at-lt b i)

pub is_set-or : (a b i : ℕ) → is_set (bit_or a b) i ≡ (is_set a i || is_set b i)
is_set-or a b i = ap (λ n. nat_eq n 1) (bit_at_or a b i) ∙ greatest_is_or _ _ (bit_at-lt a i) (bit_at-lt b i)

pub is_set-not : (n i : ℕ) → n < 2 ^ 64 → i < 64 → is_set (2 ^ 64 - 1 - n) i ≡ not (is_set n i)
is_set-not n i h k = ap (λ m. nat_eq m 1) (bit_at_not w64 n i h k) ∙ other_is_not _ (bit_at-lt n i)

pub is_set-zero : (i : ℕ) → is_set 0 i ≡ false
is_set-zero i = ap (λ n. nat_eq n 1) (bit_at-zero i)

-- the two tests agree, so the bits are the same
same_test : (x y : ℕ) → x < 2 → y < 2 → nat_eq x 1 ≡ nat_eq y 1 → x ≡ y
same_test x y p q e = elim (zero_or_one x p) as (λ _. x ≡ y) [
  | inl f ↦ elim (zero_or_one y q) as (λ _. x ≡ y) [ inl g ↦ f ∙ sym g | inr g ↦ absurd (let k : false ≡ true = rw (f, g) at e in cc) ]
  | inr f ↦ elim (zero_or_one y q) as (λ _. x ≡ y) [ inl g ↦ absurd (let k : true ≡ false = rw (f, g) at e in cc) | inr g ↦ f ∙ sym g ]
]

-- two numbers of w bits with the same bits are equal
pub same_from_set : (w a b : ℕ) → a < 2 ^ w → b < 2 ^ w → ((i : ℕ) → i < w → is_set a i ≡ is_set b i) → a ≡ b
same_from_set w a b p q same = same_from_bits_below w a b p q (λ i h. same_test _ _ (bit_at-lt a i) (bit_at-lt b i) (same i h))

one_or_zero : (b : Bool) → (cond b 1 0 < 2) × (nat_eq (cond b 1 0) 1 ≡ b)
one_or_zero true = (omega arith, refl)
one_or_zero false = (omega arith, refl)

pub number_of_lt : (f : ℕ → Bool) (n : ℕ) → number_of f n < 2 ^ n
unfolding number_of
number_of_lt f zero = omega arith
number_of_lt f (suc n) = elim (f n) as (λ b. cond b 1 0 * 2 ^ n + number_of f n < 2 ^ suc n) [
  | true ↦ omega (arith, number_of_lt f n, pow-suc 2 n)
  | false ↦ omega (arith, number_of_lt f n, pow-suc 2 n)
]

pub is_set-number_of : (f : ℕ → Bool) (n i : ℕ) → i < n → is_set (number_of f n) i ≡ f i
unfolding number_of
is_set-number_of f zero i h = absurd (omega arith)
is_set-number_of f (suc n) i h =
    elim (cases_eq i n) as (λ _. is_set (cond (f n) 1 0 * 2 ^ n + number_of f n) i ≡ f i) [
      | inl same ↦ ap (λ m. nat_eq m 1) (bit_at_cat_high (cond (f n) 1 0) n (number_of f n) i (number_of_lt f n) (omega arith)) ∙ top same
      | inr other ↦ ap (λ m. nat_eq m 1) (bit_at_cat_low (cond (f n) 1 0) n (number_of f n) i (omega arith)) ∙ is_set-number_of f n i (omega arith)
    ]
  where
    top : i ≡ n → is_set (cond (f n) 1 0) (i - n) ≡ f i
    top same = let none : i - n ≡ 0 = omega arith in
        rw none (ap (λ m. nat_eq m 1) (bit_at_lowest (cond (f n) 1 0) ∙ mod-eq_of_lt (one_or_zero (f n)).0) ∙ (one_or_zero (f n)).1 ∙ ap f (sym same))
