use Rattle.dep_graph.proofs.Pairs.{pairs_are_parted}
use Rattle.dep_graph.proofs.laws.part_keeps_the_pairs_within.Goals as goal

pub returns : goal.returns
returns c = pairs_are_parted
