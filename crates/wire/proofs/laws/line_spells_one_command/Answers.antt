use Rattle.wire.proofs.CommandLemmas.{one_command}
use Rattle.wire.proofs.laws.line_spells_one_command.Goals as goal

pub returns : goal.returns
returns c = one_command
