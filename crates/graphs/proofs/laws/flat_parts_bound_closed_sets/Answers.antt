use Rattle.graphs.proofs.BestLemmas.{flat_tangent}
use Rattle.graphs.proofs.laws.flat_parts_bound_closed_sets.Goals as goal

pub returns : goal.returns
returns c = flat_tangent
