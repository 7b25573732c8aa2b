use Rattle.graph_model.proofs.LoadLemmas.{loads_prove}
use Rattle.graph_model.proofs.laws.loads_prove.Goals as goal

pub returns : goal.returns
returns c = loads_prove
