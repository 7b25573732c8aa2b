use Rattle.replacement.proofs.laws.fewer_parts_fit_together.Goals as goal
use Rattle.replacement.proofs.MergedWalks.{fewer_fit}

pub returns : goal.returns
returns c = fewer_fit
