use Rattle.graphs.proofs.ClosureGraphs.{closures_have_graphs}
use Rattle.graphs.proofs.laws.closures_have_graphs.Goals as goal

pub returns : goal.returns
returns c = closures_have_graphs
