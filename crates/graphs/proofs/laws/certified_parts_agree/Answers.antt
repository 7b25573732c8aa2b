use Rattle.graphs.proofs.PartLemmas.{parts_one_rate, parts_lowest, parts_best}
use Rattle.graphs.proofs.laws.certified_parts_agree.Goals as goal

pub returns : goal.returns
returns c = record { rates = parts_one_rate; last = parts_lowest; first = parts_best }
