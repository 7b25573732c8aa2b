use Rattle.links.proofs.Splitting.{falls_into}
use Rattle.links.proofs.laws.components_are_closed.Goals as goal

pub returns : goal.returns
returns c = falls_into
