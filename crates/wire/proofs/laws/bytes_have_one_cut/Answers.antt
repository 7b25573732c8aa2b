use Rattle.wire.proofs.CutLemmas.{one_cut}
use Rattle.wire.proofs.laws.bytes_have_one_cut.Goals as goal

pub returns : goal.returns
returns c = one_cut
