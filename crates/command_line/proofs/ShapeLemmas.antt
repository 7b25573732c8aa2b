-- The command line is one whose parse is a function of the words.
use Rattle.std.proofs.Common.{◌≡◌, List, [], true, refl, subst, sym, ◌∙◌, ap}
use Rattle.std.specs.Prelude.{Result, Ok, Err, IfOk}
use Rattle.clap.proofs.OnLiterals.{clap_on_literals}
use Rattle.clap.specs.Words.{App, FailsBy, HasMatchesOf, Text, fault_of, is_simple, is_simple_and_free, subcommand_of, subcommand_rows_of}
use Rattle.clap.specs.declared.error.Error.{Error}
use Rattle.clap.specs.declared.parser.matches.ArgMatches.{ArgMatches}
use Rattle.command_line.specs.Words.{txgraph}

is_plain : is_simple txgraph ≡ true
unfolding clap_on_literals
is_plain = refl

is_free : is_simple_and_free txgraph ≡ true
unfolding clap_on_literals
is_free = refl

-- a parse that succeeds has no fault, and finds the subcommand that stands in the words
pub parsed_wholly : (words : List Text) (app : App) (r : Result ArgMatches Error) → app ≡ txgraph → IfOk r (HasMatchesOf app words)
    → (is_simple_and_free app ≡ true → FailsBy (fault_of app words) r)
    → IfOk r (λ matches. (fault_of txgraph words ≡ []) × (subcommand_rows_of matches ≡ subcommand_of txgraph words))
parsed_wholly words app (Err error) is has fails = tt
parsed_wholly words app (Ok matches) is has fails =
    (ap (λ a. fault_of a words) (sym is) ∙ fails (ap is_simple_and_free is ∙ is_free), (has (ap is_simple is ∙ is_plain)).1 ∙ ap (λ a. subcommand_of a words) is)
