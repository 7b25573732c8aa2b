-- The command line: what the parser is told of it, and what words it takes. A parse without a fault is one that can fail for want of memory
-- alone.
use Rattle.std.specs.Prelude.{◌≡◌, ℕ, true, List, [], ◌∷◌, codes, decimal, Option, Some}
use Rattle.std.specs.Str.Parse.{IsNumeral, digits_value, without_leading_plus}
use Rattle.clap.specs.Words.{App, Rule, Row, Text, fault_of, new_app, new_rule, one_of, subcommand_of, with_rule, with_subcommand}
use Rattle.clap.specs.declared.builder.action.ArgAction.TheVariants.{Set}
use Rattle.clap.specs.declared.builder.value_parser.ValueParser.TheVariants.{Unsigned}
use Rattle.graph_model.specs.CommandLines.{Asked, Replays, Checks, Loads, Generates, HasRange, asked_words}
use Rattle.command_line.specs.declared.words.Asked.{Asked as WordsAsked}
use Rattle.command_line.specs.declared.words.Asked.TheVariants.{Replay, Check, Load, Gen}

-- a required positional argument, a whole number of at most so much
abbrev pub number_rule : Text → ℕ → Rule
number_rule id most = record (new_rule id) { action = Some Set; required = true; parser = Some (Unsigned 0 most) }

-- `gen SEED COUNT`
abbrev pub gen_app : App
gen_app = with_rule (with_rule (new_app (codes "gen")) (number_rule (codes "SEED") 2147483647)) (number_rule (codes "COUNT") 1000000)

-- a command that has to be given a subcommand
abbrev pub with_subcommand_required : App → App
with_subcommand_required app = record app { top = record app.top { subcommand_required = true } }

-- `txgraph` with the first two of its subcommands, `replay` and `check`
abbrev pub base_app : App
base_app =
    with_subcommand (with_subcommand (with_subcommand_required (new_app (codes "txgraph"))) (new_app (codes "replay")).top) (new_app (codes "check")).top

-- `txgraph` with one subcommand of four: no option of its own, no group
abbrev pub txgraph : App
txgraph = with_subcommand (with_subcommand base_app (new_app (codes "load")).top) gen_app.top

-- the value of an argument spells this number: in digits, before which a plus sign may stand
abbrev pub HasNumber : Text → List Row → ℕ → Type 0
HasNumber id rows n =
    (word : Text) × (one_of id rows ≡ Some word) × IsNumeral 10 (without_leading_plus word) × (n ≡ digits_value 10 (without_leading_plus word))

-- the subcommand that was entered, with its arguments, is what is asked for
abbrev pub Enters : Option (Text × List Row) → Asked → Type 0
Enters entered Replays = (rows : List Row) × (entered ≡ Some (codes "replay", rows))
Enters entered Checks = (rows : List Row) × (entered ≡ Some (codes "check", rows))
Enters entered Loads = (rows : List Row) × (entered ≡ Some (codes "load", rows))
Enters entered (Generates seed count) =
    (rows : List Row) × (entered ≡ Some (codes "gen", rows)) × HasNumber (codes "SEED") rows seed × HasNumber (codes "COUNT") rows count

-- The command line takes the words, and they ask for this.
pub record AsksFor (given : List Text) (asked : Asked) : Type 0 where
  pub taken : fault_of txgraph given ≡ []
  pub enters : Enters (subcommand_of txgraph given) asked
  pub range : HasRange asked

-- they ask for nothing
abbrev pub AreRefused : List Text → Type 0
AreRefused given = (asked : Asked) → AsksFor given asked → ⊥

abbrev pub asked_of : WordsAsked → Asked
asked_of Replay = Replays
asked_of Check = Checks
asked_of Load = Loads
asked_of (Gen seed count) = Generates seed count

-- Words ask for one thing at most. Those that spell a request in the plainest way, behind the program's name, ask for it: `replay`, `check`,
-- `load`, and `gen` with two numbers in range, in digits without leading zeros.
pub record WordsAskOnce : Type 0 where
  pub once : (given : List Text) (one other : Asked) → AsksFor given one → AsksFor given other → one ≡ other
  pub replays : (name : Text) → AsksFor (name ∷ asked_words Replays) Replays
  pub checks : (name : Text) → AsksFor (name ∷ asked_words Checks) Checks
  pub loads : (name : Text) → AsksFor (name ∷ asked_words Loads) Loads
  pub generates : (name : Text) (seed count : ℕ) → HasRange (Generates seed count) → AsksFor (name ∷ asked_words (Generates seed count)) (Generates seed count)
