use Rattle.graph_model.proofs.OneRefusal.{one_refusal}
use Rattle.graph_model.proofs.laws.rows_are_functions.Goals as goal

pub returns : goal.returns
returns c = one_refusal
