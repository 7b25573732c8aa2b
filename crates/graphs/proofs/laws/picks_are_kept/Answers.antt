use Rattle.graphs.proofs.PickLemmas.{picks_are_kept}
use Rattle.graphs.proofs.laws.picks_are_kept.Goals as goal

pub returns : goal.returns
returns c = picks_are_kept
