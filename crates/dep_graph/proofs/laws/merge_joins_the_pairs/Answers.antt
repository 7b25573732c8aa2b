use Rattle.dep_graph.proofs.Pairs.{pairs_are_merged}
use Rattle.dep_graph.proofs.laws.merge_joins_the_pairs.Goals as goal

pub returns : goal.returns
returns c = pairs_are_merged
