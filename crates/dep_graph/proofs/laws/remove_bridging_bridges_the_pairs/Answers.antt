use Rattle.dep_graph.proofs.Pairs.{pairs_are_bridged}
use Rattle.dep_graph.proofs.laws.remove_bridging_bridges_the_pairs.Goals as goal

pub returns : goal.returns
returns c = pairs_are_bridged
