use Rattle.graph_model.proofs.UnmineLemmas.{mined_comes_back}
use Rattle.graph_model.proofs.laws.mined_comes_back.Goals as goal

pub returns : goal.returns
returns c = mined_comes_back
