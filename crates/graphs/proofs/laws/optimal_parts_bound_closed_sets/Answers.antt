use Rattle.graphs.proofs.OrderLemmas.{optimal_tangent}
use Rattle.graphs.proofs.laws.optimal_parts_bound_closed_sets.Goals as goal

pub returns : goal.returns
returns c = optimal_tangent
