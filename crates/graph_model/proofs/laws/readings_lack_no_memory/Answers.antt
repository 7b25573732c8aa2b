use Rattle.graph_model.proofs.RunLemmas.{readings_lack_none}
use Rattle.graph_model.proofs.laws.readings_lack_no_memory.Goals as goal

pub returns : goal.returns
returns c = readings_lack_none
