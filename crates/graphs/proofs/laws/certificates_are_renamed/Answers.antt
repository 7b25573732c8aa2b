use Rattle.graphs.proofs.RenamingLemmas.{certificates_are_renamed}
use Rattle.graphs.proofs.laws.certificates_are_renamed.Goals as goal

pub returns : goal.returns
returns c = certificates_are_renamed
