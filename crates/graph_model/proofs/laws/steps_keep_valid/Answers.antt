use Rattle.graph_model.proofs.StepLemmas.{steps_keep_valid}
use Rattle.graph_model.proofs.laws.steps_keep_valid.Goals as goal

pub returns : goal.returns
returns c = steps_keep_valid
