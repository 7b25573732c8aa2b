-- Laws over what is kept.
use Rattle.std.specs.Prelude.{ℕ, List}
use Rattle.graph_model.specs.Commands.{Command, Mine, Unmine}
use Rattle.graph_model.specs.Replies.{Reply}
use Rattle.graph_model.specs.States.{MinedBlock}
use Rattle.tx_graph.specs.Kept as graphs
use Rattle.reorg.specs.Kept.{MakesStep}

-- the commands that leave the mined blocks as they are
abbrev pub LeavesBlocks : Command → Type 0
LeavesBlocks (Mine ids) = ⊥
LeavesBlocks Unmine = ⊥
LeavesBlocks command = Unit {0}

-- A step of the graph by a command that neither mines nor takes back is one with all blocks that may be kept beside it.
abbrev pub OtherCommandsKeepBlocks : Type 0
OtherCommandsKeepBlocks =
    (old new : graphs.Kept) (command : Command) (reply : Reply) (blocks : List MinedBlock) → LeavesBlocks command → graphs.MakesStep old new command reply
    → MakesStep (record { graph = old; blocks = blocks }) (record { graph = new; blocks = blocks }) command reply
