use Rattle.graphs.proofs.PairLemmas.{no_cycle_with_pair}
use Rattle.graphs.proofs.laws.stays_without_cycle.Goals as goal

pub returns : goal.returns
returns c = no_cycle_with_pair
