use Rattle.graph_model.proofs.DumpLemmas.{dumps_load}
use Rattle.graph_model.proofs.laws.dumps_load.Goals as goal

pub returns : goal.returns
returns c = dumps_load
