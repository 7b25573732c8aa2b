use Rattle.graphs.proofs.CornerLemmas.{joins_some, joins_one, joins_first_segment}
use Rattle.graphs.proofs.laws.equal_rates_join_once.Goals as goal

pub returns : goal.returns
returns c = record { some = joins_some; one = joins_one; first = joins_first_segment }
