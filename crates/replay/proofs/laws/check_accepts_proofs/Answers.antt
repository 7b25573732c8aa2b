use Rattle.replay.proofs.AcceptLemmas.{check_accepts_proofs}
use Rattle.replay.proofs.laws.check_accepts_proofs.Goals as goal

pub returns : goal.returns
returns g c = check_accepts_proofs _
