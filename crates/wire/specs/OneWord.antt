-- Numbers are spelled without a space.
use Rattle.std.proofs.Common.{◌≢◌, ℕ, ◌<◌, ◌^◌, List, [], ◌∷◌, arith, suc, decimal, ℤ, pos, negsuc, FitsSigned}
use Rattle.std.specs.Int.{w64}
use Rattle.std.proofs.lemmas.Int.{ints}
use Rattle.std.specs.Fmt.{signed_decimal}
use Rattle.std.specs.Str.Parse.{AllDigits}
use Rattle.std.proofs.lemmas.Str.Parse.{digit_from_value}
use Rattle.std.proofs.lemmas.Fmt.{decimal_is_IsNumeral_wide}
use Rattle.std.proofs.lemmas.List.Elements.{All-cons, All-nil}
use Rattle.wire.specs.Fields.{IsOneWord, IsBigFee}

no_space : (digits : List ℕ) → AllDigits 10 digits → IsOneWord digits
no_space [] all = All-nil (λ byte. byte ≢ 32)
no_space (digit ∷ digits) all = let is = digit_from_value digit all.0 in
    All-cons (λ byte. byte ≢ 32) digit digits (λ space. omega (arith, is, space)) (no_space digits all.1)

pub big_word : (n : ℕ) → n < 10 ^ 64 → IsOneWord (decimal n)
big_word n fits = no_space (decimal n) (decimal_is_IsNumeral_wide n fits).0.1

signed : (n : ℕ) → n < 10 ^ 64 → IsOneWord (45 ∷ decimal n)
signed n fits = All-cons (λ byte. byte ≢ 32) 45 (decimal n) (λ e. absurd (omega arith)) (big_word n fits)

pub decimal_word : (n : ℕ) → n < 2 ^ 64 → IsOneWord (decimal n)
decimal_word n fits = big_word n (omega (arith, fits))

pub signed_word : (z : ℤ) → FitsSigned w64 z → IsOneWord (signed_decimal z)
signed_word (pos n) fits = big_word n (omega (arith, ints, fits))
signed_word (negsuc n) fits = signed (suc n) (omega (arith, ints, fits))

pub big_fee_word : (z : ℤ) → IsBigFee z → IsOneWord (signed_decimal z)
big_fee_word (pos n) fits = big_word n (omega (arith, fits))
big_fee_word (negsuc n) fits = signed (suc n) (omega (arith, fits))
