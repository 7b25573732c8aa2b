-- Words ask for one thing at most.
use Rattle.std.proofs.Common.{◌≡◌, ℕ, List, [], ◌∷◌, codes, Option, Some, None, sym, refl, ap, ap₂, subst, ◌∙◌, arith}
use Rattle.std.specs.Prelude.{MatchOption, Result, Ok, Err, ◌<◌, ◌^◌}
use Rattle.std.specs.Str.Parse.{IsNumeral, ParsesUnsigned, digits_value, without_leading_plus}
use Rattle.clap.proofs.WalkLemmas.{one_text-rows}
use Rattle.clap.specs.Words.{ReadsOne, Row, Text, one_of, one_text, rows_of, subcommand_of}
use Rattle.clap.specs.declared.parser.matches.Found.{Found}
use Rattle.graph_model.specs.CommandLines.{Asked, Replays, Checks, Loads, Generates, HasRange}
use Rattle.command_line.specs.Words.{Enters, HasNumber, AsksFor, txgraph}

number_once : (id : Text) (rows : List Row) (m n : ℕ) → HasNumber id rows m → HasNumber id rows n → m ≡ n
number_once id rows m n one other =
    let same : one.0 ≡ other.0 = cc in one.3 ∙ ap (λ (word : Text). digits_value 10 (without_leading_plus word)) same ∙ sym other.3

-- the name of the subcommand
abbrev name_of : Asked → Text
name_of Replays = codes "replay"
name_of Checks = codes "check"
name_of Loads = codes "load"
name_of (Generates seed count) = codes "gen"

abbrev first_byte : Text → ℕ
first_byte [] = 0
first_byte (x ∷ xs) = x

abbrev entered_name : Option (Text × List Row) → ℕ
entered_name None = 0
entered_name (Some entered) = first_byte entered.0

abbrev entered_rows : Option (Text × List Row) → List Row
entered_rows None = []
entered_rows (Some entered) = entered.1

name_entered : (entered : Option (Text × List Row)) (asked : Asked) → Enters entered asked → entered_name entered ≡ first_byte (name_of asked)
name_entered entered Replays enters = ap entered_name enters.1
name_entered entered Checks enters = ap entered_name enters.1
name_entered entered Loads enters = ap entered_name enters.1
name_entered entered (Generates seed count) enters = ap entered_name enters.1

entered_once : (entered : Option (Text × List Row)) (one other : Asked) → first_byte (name_of one) ≡ first_byte (name_of other) → Enters entered one
    → Enters entered other → one ≡ other
entered_once entered Replays Replays same one other = refl
entered_once entered Checks Checks same one other = refl
entered_once entered (Generates s c) (Generates t d) same one other =
    let rows : one.0 ≡ other.0 = ap entered_rows (sym one.1 ∙ other.1) in
    ap₂ Generates
    (number_once (codes "SEED") other.0 s t (subst (λ (rs : List Row). HasNumber (codes "SEED") rs s) rows one.2) other.2)
    (number_once (codes "COUNT") other.0 c d (subst (λ (rs : List Row). HasNumber (codes "COUNT") rs c) rows one.3) other.3)
entered_once entered Loads Loads same one other = refl
entered_once entered Replays Checks same one other = absurd (let bad : 114 ≡ 99 = same in omega (arith, bad))
entered_once entered Replays Loads same one other = absurd (let bad : 114 ≡ 108 = same in omega (arith, bad))
entered_once entered Replays (Generates t d) same one other = absurd (let bad : 114 ≡ 103 = same in omega (arith, bad))
entered_once entered Checks Replays same one other = absurd (let bad : 99 ≡ 114 = same in omega (arith, bad))
entered_once entered Checks Loads same one other = absurd (let bad : 99 ≡ 108 = same in omega (arith, bad))
entered_once entered Checks (Generates t d) same one other = absurd (let bad : 99 ≡ 103 = same in omega (arith, bad))
entered_once entered Loads Replays same one other = absurd (let bad : 108 ≡ 114 = same in omega (arith, bad))
entered_once entered Loads Checks same one other = absurd (let bad : 108 ≡ 99 = same in omega (arith, bad))
entered_once entered Loads (Generates t d) same one other = absurd (let bad : 108 ≡ 103 = same in omega (arith, bad))
entered_once entered (Generates s c) Replays same one other = absurd (let bad : 103 ≡ 114 = same in omega (arith, bad))
entered_once entered (Generates s c) Checks same one other = absurd (let bad : 103 ≡ 99 = same in omega (arith, bad))
entered_once entered (Generates s c) Loads same one other = absurd (let bad : 103 ≡ 108 = same in omega (arith, bad))

pub enters_once : (entered : Option (Text × List Row)) (one other : Asked) → Enters entered one → Enters entered other → one ≡ other
enters_once entered one other first second =
    entered_once entered one other (sym (name_entered entered one first) ∙ name_entered entered other second) first second

pub asks_once : (given : List Text) (one other : Asked) → AsksFor given one → AsksFor given other → one ≡ other
asks_once given one other first second = enters_once (subcommand_of txgraph given) one other first.enters second.enters

-- ---- the numbers of `gen`

abbrev GivesNumber : Text → List Row → Option ℕ → Type 0
GivesNumber id rows found = MatchOption found ((n : ℕ) → HasNumber id rows n → n < 2 ^ 64 → ⊥) (λ n. HasNumber id rows n)

-- a number is read of an argument as `parse` reads it of the argument's text
pub read_number : {E : Type 0} (f : Found) (id : Text) (gives : Text → Result ℕ E → Type 0) → ((t : Text) (r : Result ℕ E) → gives t r → ParsesUnsigned 64 10 t r)
    → (found : Option ℕ) (text : Option Text) → one_text f id ≡ text → (one_text f id ≡ None → found ≡ None)
    → ((t : Text) → one_text f id ≡ Some t → ReadsOne gives t found) → GivesNumber id (rows_of f) found
read_number f id gives parses found None is none value =
    rw (none is) (λ n has few. let bad : None ≡ Some has.0 = sym is ∙ one_text-rows f id ∙ has.1 in cc)
read_number f id gives parses (Some v) (Some t) is none value =
    let parsed = parses t (Ok v) (value t is) in
    (t, sym (one_text-rows f id) ∙ is, parsed.0.0, parsed.1)
read_number f id gives parses None (Some t) is none value = λ n has few.
    let failed = value t is in
    let same : t ≡ has.0 = some_is (sym is ∙ one_text-rows f id ∙ has.1) in
    parses t (Err failed.0) failed.1 (
      subst (λ (w : Text). IsNumeral 10 (without_leading_plus w)) (sym same) has.2,
      subst (λ (w : Text). digits_value 10 (without_leading_plus w) < 2 ^ 64) (sym same) (subst (λ m. m < 2 ^ 64) has.3 few),
    )
  where
    some_is : {a b : Text} → Some a ≡ Some b → a ≡ b
    some_is e = cc

number_found : (id : Text) (rows : List Row) (found : Option ℕ) (n : ℕ) → GivesNumber id rows found → HasNumber id rows n → n < 2 ^ 64 → found ≡ Some n
number_found id rows None n gives has few = absurd (gives n has few)
number_found id rows (Some v) n gives has few = ap Some (number_once id rows v n gives has)

-- where the numbers of `gen` are none that are in range, nothing is asked for
pub gen_refused : (name : Text) (rows : List Row) (seed count : Option ℕ) → name ≡ codes "gen" → GivesNumber (codes "SEED") rows seed
    → GivesNumber (codes "COUNT") rows count → ((s n : ℕ) → seed ≡ Some s → count ≡ Some n → HasRange (Generates s n) → ⊥)
    → (asked : Asked) → Enters (Some (name, rows)) asked → HasRange asked → ⊥
gen_refused name rows seed count is one other none Replays enters range =
    let bad : 103 ≡ 114 = sym (ap first_byte is) ∙ ap entered_name enters.1 in omega (arith, bad)
gen_refused name rows seed count is one other none Checks enters range =
    let bad : 103 ≡ 99 = sym (ap first_byte is) ∙ ap entered_name enters.1 in omega (arith, bad)
gen_refused name rows seed count is one other none Loads enters range =
    let bad : 103 ≡ 108 = sym (ap first_byte is) ∙ ap entered_name enters.1 in omega (arith, bad)
gen_refused name rows seed count is one other none (Generates s n) enters range =
    let same : rows ≡ enters.0 = ap entered_rows enters.1 in
    none s n
    (number_found (codes "SEED") rows seed s one (subst (λ (rs : List Row). HasNumber (codes "SEED") rs s) (sym same) enters.2) (omega (arith, range.0)))
    (number_found (codes "COUNT") rows count n other (subst (λ (rs : List Row). HasNumber (codes "COUNT") rs n) (sym same) enters.3) (omega (arith, range.1)))
    range
