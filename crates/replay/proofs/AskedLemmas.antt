-- Words ask for one thing, so what is done for it is all that the clauses of the top call say.
use Rattle.std.proofs.Common.{◌≡◌, ℕ, List}
use Rattle.graph_model.specs.CommandLines.{Generates}
use Rattle.command_line.specs.Words.{AsksFor}
use Rattle.command_line.proofs.AskLemmas.{asks_once}

module _ (words : List (List ℕ)) where
  pub one_count : (s c t d : ℕ) → AsksFor words (Generates s c) → AsksFor words (Generates t d) → c ≡ d
  one_count s c t d one other = let same = asks_once words (Generates s c) (Generates t d) one other in cc
