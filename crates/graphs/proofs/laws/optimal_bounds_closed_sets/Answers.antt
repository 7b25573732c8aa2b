use Rattle.graphs.proofs.BestLemmas.{optimal_bounds}
use Rattle.graphs.proofs.laws.optimal_bounds_closed_sets.Goals as goal

pub returns : goal.returns
returns c = optimal_bounds
