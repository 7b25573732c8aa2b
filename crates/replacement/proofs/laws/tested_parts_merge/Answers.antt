use Rattle.replacement.proofs.laws.tested_parts_merge.Goals as goal
use Rattle.replacement.proofs.LevelLemmas.{tested_parts_merge}

pub returns : goal.returns
returns g c = tested_parts_merge
