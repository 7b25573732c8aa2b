use Rattle.command_line.proofs.LawLemmas as law
use Rattle.command_line.proofs.laws.words_ask_once.Goals as goal

pub returns : goal.returns
returns c = law.words_ask_once
