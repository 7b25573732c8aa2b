-- Numbers as text.
use Rattle.std.proofs.Common.{◌≡◌, ℕ, ◌+◌, ◌-◌, ◌*◌, ◌/◌, ◌%◌, ◌<◌, ◌^◌, List, [], ◌∷◌, ◌++◌, refl, sym, arith, ◌∙◌, ap, length, zero, suc, get_or, decimal, Option, None, Some, ℤ, pos, negsuc, unsigned_abs, FitsSigned, SomeIff, ◌-ℤ◌, subst, rules, ◌≤◌, lit<, slice_index, true, append-nil, append_assoc, length-append}
use Rattle.std.proofs.Math.ListN.{get_or-append}
use Rattle.std.specs.Int.{w64}
use Rattle.std.proofs.lemmas.Int.{ints}
use Rattle.std.proofs.Math.IntN.{+ℤ_idl}
use Rattle.std.specs.Fmt.{signed_decimal}
use Rattle.std.specs.Str.{all_ascii_digits}
use Rattle.std.specs.Str.Parse.{AllDigits, digits_value}
use Rattle.std.proofs.lemmas.Str.Parse.{IsNumeralModel, numerals_by_fold, digit_from_value}
use Rattle.std.proofs.lemmas.Fmt.{decimal_is_IsNumeral_wide, decimal_by_steps_wide, decimal_step_wide, decimal_digit}
use Rattle.wire.specs.Digits.{read_on, IsPlain, ReadsDigits}
use Rattle.wire.specs.Fields.{ReadsAs, IsAmount, IsBigFee}

-- reading on makes a number no smaller
pub read_on-le : (n : ℕ) (digits : List ℕ) → n ≤ read_on n digits
read_on-le n [] = omega arith
read_on-le n (digit ∷ digits) = omega (arith, read_on-le (10 * n + (digit - 48)) digits)

pub own : IsNumeralModel (λ ds. all_ascii_digits ds ≡ true) (read_on 0)
own = numerals_by_fold _ (search rules) read_on (search rules)

big_digits : (n : ℕ) → n < 10 ^ 64 → all_ascii_digits (decimal n) ≡ true
big_digits n h = own.from (decimal n) (decimal_is_IsNumeral_wide n h).0.1

big_value : (n : ℕ) → n < 10 ^ 64 → read_on 0 (decimal n) ≡ n
big_value n h = own.same (decimal n) (decimal_is_IsNumeral_wide n h).0.1 ∙ (decimal_is_IsNumeral_wide n h).1

pub big_injective : (m n : ℕ) → m < 10 ^ 64 → n < 10 ^ 64 → decimal m ≡ decimal n → m ≡ n
big_injective m n p q e = sym (decimal_is_IsNumeral_wide m p).1 ∙ ap (digits_value 10) e ∙ (decimal_is_IsNumeral_wide n q).1

first_big : (n : ℕ) → 0 < n → n < 10 ^ 64 → 48 < get_or (decimal n) 0 0
first_big n some small = (decimal_by_steps_wide (λ m ds. (0 < length ds) × (0 < m → 48 < get_or ds 0 0)) (λ m l. (omega arith, λ a. omega arith))
    (λ m ds l h. (omega (arith, length-append ds ((48 + m % 10) ∷ [])), λ a. omega (arith, get_or-append ds ((48 + m % 10) ∷ []) 0 0 h.0, h.1 (omega arith))))
    n small).1 some

-- the spelling of a number is plain
pub plain_big : (bytes : List ℕ) (n : ℕ) → n < 10 ^ 64 → bytes ≡ decimal n → IsPlain bytes
plain_big bytes n fits is = rw is ((decimal_is_IsNumeral_wide n fits).0.0, zero_alone n fits)
  where
    zero_alone : (n : ℕ) → n < 10 ^ 64 → get_or (decimal n) 0 0 ≡ 48 → length (decimal n) ≡ 1
    zero_alone zero fits head = ap length (decimal_digit 0 (lit< tt))
    zero_alone (suc n) fits head = absurd (omega (arith, first_big (suc n) (omega arith) fits))

-- digits after a number that isn't 0 stand behind its own
decimal_read_on : (n : ℕ) (ds : List ℕ) → 0 < n → AllDigits 10 ds → read_on n ds < 10 ^ 64 → decimal (read_on n ds) ≡ decimal n ++ ds
decimal_read_on n [] some d small = sym (append-nil (decimal n))
decimal_read_on n (c ∷ cs) some d small =
    let m : ℕ = 10 * n + (c - 48) in
    let k = digit_from_value c d.0 in
    let front : m / 10 ≡ n = omega (arith, k) in
    let end : 48 + m % 10 ≡ c = omega (arith, k) in
    decimal_read_on m cs (omega arith) d.1 small
    ∙ ap (λ (xs : List ℕ). xs ++ cs) (decimal_step_wide m (omega arith) (omega (arith, read_on-le m cs)) ∙ (λ i. decimal (front i) ++ (end i ∷ [])))
    ∙ append_assoc (decimal n) (c ∷ []) cs

-- plain digits are the spelling of their value
decimal_read : (ds : List ℕ) → AllDigits 10 ds → IsPlain ds → read_on 0 ds < 10 ^ 64 → decimal (read_on 0 ds) ≡ ds
decimal_read [] d plain small = absurd (omega (arith, plain.0))
decimal_read (c ∷ []) d plain small =
    let k = digit_from_value c d.0 in
    decimal_digit (10 * 0 + (c - 48)) (omega (arith, k)) ∙ ap (λ (x : ℕ). x ∷ []) (omega (arith, k))
decimal_read (c ∷ e ∷ cs) d plain small =
    let k = digit_from_value c d.0 in
    let no : c ≡ 48 → ⊥ = λ z. omega (arith, plain.1 z) in
    let is : 48 + (10 * 0 + (c - 48)) ≡ c = omega (arith, k) in
    decimal_read_on (10 * 0 + (c - 48)) (e ∷ cs) (omega (arith, k)) d.1 small
    ∙ ap (λ (xs : List ℕ). xs ++ (e ∷ cs)) (decimal_digit (10 * 0 + (c - 48)) (omega (arith, k)) ∙ ap (λ (x : ℕ). x ∷ []) is)

pub number_reads : {N : Type 0} (value : N → ℕ) (limit : ℕ) (bytes : List ℕ) (found : Option N) → limit ≤ 10 ^ 64 → IsPlain bytes
    → ReadsDigits value limit bytes found → ReadsAs (λ number. decimal (value number)) (λ number. value number < limit) bytes found
number_reads value limit bytes None small plain none = λ number below is.
    let fits : value number < 10 ^ 64 = omega (arith, below, small) in
    none (rw is (big_digits (value number) fits)) (rw is (rw (big_value (value number) fits) below))
number_reads value limit bytes (Some number) small plain found =
    let fits : read_on 0 bytes < 10 ^ 64 = omega (arith, found.1, found.2, small) in
    (found.2, sym (ap decimal found.1 ∙ decimal_read bytes (own.to bytes found.0) plain fits))

-- a text that no number of a type spells is the spelling of none below the limit
pub no_number : {N : Type 0} (value : N → ℕ) (limit : ℕ) (text : List ℕ) → ((n : ℕ) → n < limit → (number : N) × (value number ≡ n))
    → ((number : N) → value number < limit → text ≡ decimal (value number) → ⊥) → (n : ℕ) → n < limit → text ≡ decimal n → ⊥
no_number value limit text reached none n below is = let of_type = reached n below in none of_type.0 (rw of_type.1 below) (rw of_type.1 is)

-- the digits of a number have no sign
no_minus : (n : ℕ) (rest : List ℕ) → n < 10 ^ 64 → decimal n ≡ 45 ∷ rest → ⊥
no_minus n rest fits is = let digits : all_ascii_digits (45 ∷ rest) ≡ true = rw is at (big_digits n fits) in cc

pub minus_unread : (limit : ℕ) (bytes rest : List ℕ) → limit ≤ 10 ^ 64 → bytes ≡ 45 ∷ rest → ((n : ℕ) → n < limit → rest ≡ decimal n → ⊥)
    → (value : ℤ) → unsigned_abs value < limit → bytes ≡ signed_decimal value → ⊥
minus_unread limit bytes rest small front none (pos n) below is = no_minus n rest (omega (arith, below, small)) (sym is ∙ front)
minus_unread limit bytes rest small front none (negsuc n) below is =
    none (suc n) below (let e : 45 ∷ rest ≡ 45 ∷ decimal (suc n) = sym front ∙ is in cc)

pub plain_unread : (limit : ℕ) (bytes : List ℕ) → (slice_index bytes 0 ≡ 45 → ⊥) → ((n : ℕ) → n < limit → bytes ≡ decimal n → ⊥)
    → (value : ℤ) → unsigned_abs value < limit → bytes ≡ signed_decimal value → ⊥
plain_unread limit bytes front none (pos n) below is = none n below is
plain_unread limit bytes front none (negsuc n) below is = front (rw is refl)

pub zero_unread : (value : ℤ) → unsigned_abs value < 10 ^ 64 → 45 ∷ decimal 0 ≡ signed_decimal value → ⊥
zero_unread (pos n) small is = no_minus n (decimal 0) small (sym is)
zero_unread (negsuc n) small is =
    let f : 45 ∷ decimal 0 ≡ 45 ∷ decimal (suc n) = is in
    let g : decimal 0 ≡ decimal (suc n) = cc in
    let e : 0 ≡ suc n = big_injective 0 (suc n) (lit< tt) small g in absurd (omega arith)

-- what is found below zero is read of the digits behind a sign
pub negative_reads : (m : ℕ) (found : Option ℤ) → (m ≡ 0 → ⊥) → m < 2 ^ 64
    → SomeIff found (FitsSigned w64 (pos 0 -ℤ pos m)) (pos 0 -ℤ pos m) → ReadsAs signed_decimal (FitsSigned w64) (45 ∷ decimal m) found
negative_reads zero found some wide is = absurd (some refl)
negative_reads (suc m) None some wide none = unread
  where
    unread : (value : ℤ) → FitsSigned w64 value → 45 ∷ decimal (suc m) ≡ signed_decimal value → ⊥
    unread (pos n) fits is = no_minus n (decimal (suc m)) (omega (arith, ints, fits)) (sym is)
    unread (negsuc n) fits is =
        let f : 45 ∷ decimal (suc m) ≡ 45 ∷ decimal (suc n) = is in
        let g : decimal (suc m) ≡ decimal (suc n) = cc in
        let e : suc m ≡ suc n = big_injective (suc m) (suc n) (omega (arith, wide)) (omega (arith, ints, fits)) g in
        let back : n ≡ m = omega arith in
        none (subst (FitsSigned w64) (ap negsuc back ∙ sym (+ℤ_idl (negsuc m))) fits)
negative_reads (suc m) (Some value) some wide found = subst (λ (z : ℤ). FitsSigned w64 z × (45 ∷ decimal (suc m) ≡ signed_decimal z))
    (sym (found.1 ∙ +ℤ_idl (negsuc m))) (subst (FitsSigned w64) (+ℤ_idl (negsuc m)) found.0, refl)

pub large_unread : (m : ℕ) → m < 2 ^ 64 → 2 ^ 63 ≤ m → (value : ℤ) → FitsSigned w64 value → decimal m ≡ signed_decimal value → ⊥
large_unread m wide large (pos n) fits is =
    let e : m ≡ n = big_injective m n (omega (arith, wide)) (omega (arith, ints, fits)) is in omega (arith, ints, fits)
large_unread m wide large (negsuc n) fits is = no_minus m (decimal (suc n)) (omega (arith, wide)) is

pub big_fee_injective : (y z : ℤ) → IsBigFee y → IsBigFee z → signed_decimal y ≡ signed_decimal z → y ≡ z
big_fee_injective (pos m) (pos n) p q e = ap pos (big_injective m n (omega (arith, p)) (omega (arith, q)) e)
big_fee_injective (pos m) (negsuc n) p q e = absurd (no_minus m _ (omega (arith, p)) e)
big_fee_injective (negsuc m) (pos n) p q e = absurd (no_minus n _ (omega (arith, q)) (sym e))
big_fee_injective (negsuc m) (negsuc n) p q e =
    let f : 45 ∷ decimal (suc m) ≡ 45 ∷ decimal (suc n) = e in
    let g : decimal (suc m) ≡ decimal (suc n) = cc in
    let h : suc m ≡ suc n = big_injective (suc m) (suc n) (omega (arith, p)) (omega (arith, q)) g in
    ap negsuc (omega arith)

pub small_amount_unread : (bytes : List ℕ) (n : ℕ) → n < 1 → bytes ≡ decimal n → (value : ℕ) → IsAmount value → bytes ≡ decimal value → ⊥
small_amount_unread bytes n small is value fits also =
    let e : n ≡ value = big_injective n value (omega arith) (omega (arith, fits.1)) (sym is ∙ also) in omega (arith, fits.0)
