use Rattle.std.proofs.Common.{subst, ap}
use Rattle.std.specs.Prelude.{IfOk, map, string_bytes}
use Rattle.clap.specs.Words.{App, HasMatchesOf}
use Rattle.command_line.proofs.ShapeLemmas.{parsed_wholly}
use Rattle.command_line.proofs.words.parse.Goals as goal

pub returns-clause-matches : goal.returns-clause-matches
returns-clause-matches c =
    parsed_wholly (map string_bytes c.args.words.now) _ c.try_get_matches_from.result c.in_ok-command_line.ensures c.try_get_matches_from.ensures.matches
    c.try_get_matches_from.ensures.kinds
