use Rattle.graph_model.proofs.FunctionLemmas.{steps_are_functions}
use Rattle.graph_model.proofs.laws.steps_are_functions.Goals as goal

pub returns : goal.returns
returns c = steps_are_functions
