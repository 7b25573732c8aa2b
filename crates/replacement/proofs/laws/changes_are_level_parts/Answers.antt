use Rattle.replacement.proofs.laws.changes_are_level_parts.Goals as goal
use Rattle.replacement.proofs.LevelLemmas.{changes_are_level_parts}

pub returns : goal.returns
returns c = changes_are_level_parts
