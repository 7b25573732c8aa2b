use Rattle.graphs.proofs.PairLemmas.{connected_across}
use Rattle.graphs.proofs.laws.components_with_pair.Goals as goal

pub returns : goal.returns
returns c = connected_across
