use Rattle.graph_model.proofs.RunLemmas.{refused_keeps_state}
use Rattle.graph_model.proofs.laws.refused_changes_nothing.Goals as goal

pub returns : goal.returns
returns c = refused_keeps_state
