use Rattle.replacement.proofs.laws.common_parts_keep_verdicts.Goals as goal
use Rattle.replacement.proofs.MergeLemmas.{common_parts_keep_verdicts}

pub returns : goal.returns
returns c = common_parts_keep_verdicts
