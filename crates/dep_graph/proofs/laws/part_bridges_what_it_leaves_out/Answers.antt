use Rattle.dep_graph.proofs.Pairs.{part_is_bridged}
use Rattle.dep_graph.proofs.laws.part_bridges_what_it_leaves_out.Goals as goal

pub returns : goal.returns
returns c = part_is_bridged
