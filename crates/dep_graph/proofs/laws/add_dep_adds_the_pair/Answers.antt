use Rattle.dep_graph.proofs.Pairs.{pair_is_added}
use Rattle.dep_graph.proofs.laws.add_dep_adds_the_pair.Goals as goal

pub returns : goal.returns
returns c = pair_is_added
