use Rattle.graphs.proofs.OrderLemmas.{first_best}
use Rattle.graphs.proofs.laws.first_parts_are_best.Goals as goal

pub returns : goal.returns
returns c = first_best
