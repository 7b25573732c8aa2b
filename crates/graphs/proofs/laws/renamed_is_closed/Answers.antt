use Rattle.graphs.proofs.ClosingLemmas.{closes_renamed}
use Rattle.graphs.proofs.laws.renamed_is_closed.Goals as goal

pub returns : goal.returns
returns c = closes_renamed
