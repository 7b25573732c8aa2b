use Rattle.graphs.proofs.PairLemmas.{ancestors_through}
use Rattle.graphs.proofs.laws.ancestors_with_pair.Goals as goal

pub returns : goal.returns
returns c = ancestors_through
