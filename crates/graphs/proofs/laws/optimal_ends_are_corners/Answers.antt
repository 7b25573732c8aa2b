use Rattle.graphs.proofs.CornerLemmas.{optimal_ends}
use Rattle.graphs.proofs.laws.optimal_ends_are_corners.Goals as goal

pub returns : goal.returns
returns c = optimal_ends
