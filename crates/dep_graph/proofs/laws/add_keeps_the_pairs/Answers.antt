use Rattle.dep_graph.proofs.Pairs.{place_keeps_pairs}
use Rattle.dep_graph.proofs.laws.add_keeps_the_pairs.Goals as goal

pub returns : goal.returns
returns c = place_keeps_pairs
