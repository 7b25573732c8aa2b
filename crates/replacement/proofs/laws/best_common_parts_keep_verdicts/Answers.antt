use Rattle.replacement.proofs.laws.best_common_parts_keep_verdicts.Goals as goal
use Rattle.replacement.proofs.MergeLemmas.{best_common_parts_keep_verdicts}

pub returns : goal.returns
returns c = best_common_parts_keep_verdicts
