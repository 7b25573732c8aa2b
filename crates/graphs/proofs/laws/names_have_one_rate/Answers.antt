use Rattle.graphs.proofs.OrderLemmas.{one_rate}
use Rattle.graphs.proofs.laws.names_have_one_rate.Goals as goal

pub returns : goal.returns
returns c = one_rate
