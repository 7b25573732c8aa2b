use Rattle.graphs.proofs.CornerLemmas.{corners_unique}
use Rattle.graphs.proofs.laws.corners_are_unique.Goals as goal

pub returns : goal.returns
returns c = corners_unique
