use Rattle.graphs.proofs.ClosingLemmas.{closes_pair}
use Rattle.graphs.proofs.laws.pair_is_closed.Goals as goal

pub returns : goal.returns
returns c = closes_pair
