-- What is spelled in the plainest way is taken.
use Rattle.std.proofs.Common.{◌≡◌, ℕ, ◌==◌, ◌<◌, ◌≤◌, ◌^◌, true, false, List, [], ◌∷◌, length, codes, decimal, refl, sym, ap, ap₂, subst, ◌∙◌, arith, ne_eqb, Option, Some, None}
use Rattle.std.specs.Prelude.{drop, cond, slice_index}
use Rattle.std.specs.Str.Parse.{IsNumeral, digits_value, without_leading_plus}
use Rattle.std.proofs.lemmas.Str.Parse.{digit_from_value}
use Rattle.std.proofs.lemmas.Fmt.{decimal_is_IsNumeral}
use Rattle.clap.proofs.ValueTestLemmas.{Accepts-accepts}
use Rattle.clap.specs.ValueTests.{is_unsigned_in}
use Rattle.clap.specs.Words.{Row, Text, fault_of, one_of, subcommand_of}
use Rattle.clap.specs.declared.parser.matches.ValueSource.TheVariants.{CommandLine}
use Rattle.clap.specs.declared.builder.value_parser.Reading.TheVariants.{AsWritten}
use Rattle.clap.specs.declared.builder.value_parser.ValueParser.TheVariants.{Unsigned}
use Rattle.clap.proofs.OnLiterals.{clap_on_literals}
use Rattle.graph_model.specs.CommandLines.{Replays, Checks, Loads, Generates, HasRange}
use Rattle.command_line.specs.Words.{AsksFor, HasNumber, WordsAskOnce, txgraph}
use Rattle.command_line.proofs.AskLemmas.{asks_once}

pub replay_asked : (name : Text) → AsksFor (name ∷ codes "replay" ∷ []) Replays
unfolding clap_on_literals
replay_asked name = record { taken = refl; enters = ([], refl); range = tt }

pub check_asked : (name : Text) → AsksFor (name ∷ codes "check" ∷ []) Checks
unfolding clap_on_literals
check_asked name = record { taken = refl; enters = ([], refl); range = tt }

pub load_asked : (name : Text) → AsksFor (name ∷ codes "load" ∷ []) Loads
unfolding clap_on_literals
load_asked name = record { taken = refl; enters = ([], refl); range = tt }

-- the value of an argument, as the command line gives it
abbrev row : Text → Text → Row
row id word = record { id = id; values = word ∷ []; count = None; source = Some CommandLine; reading = AsWritten }

-- ---- two words that begin with no dash and are numbers in range
module _ (name xs ys : Text) (x y : ℕ) (no_dash : (x == 45) ≡ false) (nor_here : (y == 45) ≡ false) where
  gen_taken : is_unsigned_in 0 2147483647 (x ∷ xs) ≡ true → is_unsigned_in 0 1000000 (y ∷ ys) ≡ true
      → fault_of txgraph (name ∷ codes "gen" ∷ (x ∷ xs) ∷ (y ∷ ys) ∷ []) ≡ []
  unfolding clap_on_literals
  gen_taken seed count = simp (no_dash, nor_here, seed, count)

  gen_entered : subcommand_of txgraph (name ∷ codes "gen" ∷ (x ∷ xs) ∷ (y ∷ ys) ∷ [])
      ≡ Some (codes "gen", row (codes "SEED") (x ∷ xs) ∷ row (codes "COUNT") (y ∷ ys) ∷ [])
  unfolding clap_on_literals
  gen_entered = simp (no_dash, nor_here)

-- a word of digits has no sign
digit_no_sign : (x sign : ℕ) → 48 ≤ x → sign < 48 → (x == sign) ≡ false
digit_no_sign x sign digit below = ne_eqb x sign (λ e. absurd (omega (arith, e, digit, below)))

unsigned : (x : ℕ) (xs : Text) → 48 ≤ x → without_leading_plus (x ∷ xs) ≡ x ∷ xs
unsigned x xs digit = ap (λ b. drop (cond b 1 0) (x ∷ xs)) (digit_no_sign x 43 digit (omega arith))

-- a word spells the number in digits
pub record Spells (word : Text) (n : ℕ) : Type 0 where
  pub numeral : IsNumeral 10 word
  pub value : digits_value 10 word ≡ n

first_digit : (x n : ℕ) (xs : Text) → Spells (x ∷ xs) n → 48 ≤ x
first_digit x n xs spells = let digit = digit_from_value x spells.numeral.1.0 in omega (arith, digit)

in_range : (x n most : ℕ) (xs : Text) → Spells (x ∷ xs) n → n ≤ most → most < 2 ^ 64 → is_unsigned_in 0 most (x ∷ xs) ≡ true
in_range x n most xs spells low high =
    let plain = unsigned x xs (first_digit x n xs spells) in
    Accepts-accepts false (Unsigned 0 most) (x ∷ xs) (
      subst (IsNumeral 10) (sym plain) spells.numeral,
      subst (λ (ds : Text). digits_value 10 ds < 2 ^ 64) (sym plain) (let is = spells.value in omega (arith, is, low, high)),
      omega arith,
      subst (λ (ds : Text). digits_value 10 ds ≤ most) (sym plain) (let is = spells.value in omega (arith, is, low)),
    )

number_of : (id : Text) (rows : List Row) (x n : ℕ) (xs : Text) → Spells (x ∷ xs) n → one_of id rows ≡ Some (x ∷ xs) → HasNumber id rows n
number_of id rows x n xs spells is =
    let plain = unsigned x xs (first_digit x n xs spells) in
    (x ∷ xs, is, subst (IsNumeral 10) (sym plain) spells.numeral, sym (ap (digits_value 10) plain ∙ spells.value))

spelled : (name seed_word count_word : Text) (seed count : ℕ) → Spells seed_word seed → Spells count_word count → HasRange (Generates seed count)
    → AsksFor (name ∷ codes "gen" ∷ seed_word ∷ count_word ∷ []) (Generates seed count)
spelled name [] count_word seed count one other range = absurd (let none = one.numeral.0 in omega (arith, none))
spelled name (x ∷ xs) [] seed count one other range = absurd (let none = other.numeral.0 in omega (arith, none))
spelled name (x ∷ xs) (y ∷ ys) seed count one other range =
    let here = digit_no_sign x 45 (first_digit x seed xs one) (omega arith) in
    let there = digit_no_sign y 45 (first_digit y count ys other) (omega arith) in
    let rows = row (codes "SEED") (x ∷ xs) ∷ row (codes "COUNT") (y ∷ ys) ∷ [] in record {
      taken = gen_taken name xs ys x y here there (in_range x seed 2147483647 xs one (omega (arith, range.0)) (omega arith))
          (in_range y count 1000000 ys other range.1 (omega arith));
      enters = (rows, gen_entered name xs ys x y here there, number_of (codes "SEED") rows x seed xs one refl, number_of (codes "COUNT") rows y count ys other refl);
      range = range;
    }

decimal_spells : (n : ℕ) → n < 2 ^ 64 → Spells (decimal n) n
decimal_spells n fits = let is = decimal_is_IsNumeral n fits in record { numeral = is.0; value = is.1 }

pub words_ask_once : WordsAskOnce
words_ask_once = record {
  once = asks_once;
  replays = replay_asked;
  checks = check_asked;
  loads = load_asked;
  generates = λ name seed count range. spelled name (decimal seed) (decimal count) seed count (decimal_spells seed (omega (arith, range.0)))
      (decimal_spells count (omega (arith, range.1))) range;
}
