use Rattle.graphs.proofs.ClosingLemmas.{closes_added}
use Rattle.graphs.proofs.laws.name_is_closed.Goals as goal

pub returns : goal.returns
returns c = closes_added
