use Rattle.graph_model.proofs.AbortLemmas.{abort_leaves_main}
use Rattle.graph_model.proofs.laws.abort_leaves_main.Goals as goal

pub returns : goal.returns
returns c = abort_leaves_main
