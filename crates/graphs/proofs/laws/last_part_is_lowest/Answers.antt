use Rattle.graphs.proofs.OrderLemmas.{last_is_one, lowest_last}
use Rattle.graphs.proofs.laws.last_part_is_lowest.Goals as goal

pub returns : goal.returns
returns c = record { one = last_is_one; lowest = lowest_last }
