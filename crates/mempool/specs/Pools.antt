-- A graph with its blocks, as a session keeps them.
use Rattle.std.specs.Prelude.{ℕ, ◌≤◌, length, Contains}
use Rattle.graph_model.specs.States.{MinedBlock, State}
use Rattle.reorg.specs.Kept.{Kept, StandsFor}

-- the most names that a line may list, and so the most additions that it may make
abbrev pub most_raised : ℕ
most_raised = 32766

-- A block has no more names than a line may list, and there is a state that they stand for.
pub record IsPool (kept : Kept) : Type 0 where
  pub short : (block : MinedBlock) → Contains kept.blocks block → length block.txs ≤ most_raised
  pub stands : (state : State) × StandsFor kept state
