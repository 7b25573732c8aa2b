use Rattle.chunking.proofs.Uniqueness.{unique}
use Rattle.chunking.proofs.laws.parts_are_unique.Goals as goal

pub returns : goal.returns
returns c = unique
