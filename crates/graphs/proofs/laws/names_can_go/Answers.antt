use Rattle.graphs.proofs.RemovalLemmas.{some_without}
use Rattle.graphs.proofs.laws.names_can_go.Goals as goal

pub returns : goal.returns
returns c = some_without
