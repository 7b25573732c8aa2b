use Rattle.graphs.proofs.RemovalLemmas.{ancestors_without}
use Rattle.graphs.proofs.laws.ancestors_without_name.Goals as goal

pub returns : goal.returns
returns c = ancestors_without
