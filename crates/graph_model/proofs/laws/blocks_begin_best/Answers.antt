use Rattle.graph_model.proofs.BlockLemmas.{blocks_begin_best}
use Rattle.graph_model.proofs.laws.blocks_begin_best.Goals as goal

pub returns : goal.returns
returns c = blocks_begin_best
