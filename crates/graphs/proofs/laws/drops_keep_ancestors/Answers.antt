use Rattle.graphs.proofs.DropLemmas.{some_left, graph_left, ancestors_left, covers_left}
use Rattle.graphs.proofs.laws.drops_keep_ancestors.Goals as goal

pub returns : goal.returns
returns c = record { some = some_left; graph = graph_left; ancestors = ancestors_left; covers = covers_left }
