use Rattle.graphs.proofs.CornerLemmas.{one_verdict}
use Rattle.graphs.proofs.laws.verdicts_are_unique.Goals as goal

pub returns : goal.returns
returns c = one_verdict
