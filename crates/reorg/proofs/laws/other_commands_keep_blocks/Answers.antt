use Rattle.reorg.proofs.Lifted.{lifted}
use Rattle.reorg.proofs.laws.other_commands_keep_blocks.Goals as goal

pub returns : goal.returns
returns c = lifted
