use Rattle.links.proofs.Changing.{linked_adds, joined_joins, without_drops}
use Rattle.links.proofs.Priced.{priced_sets}
use Rattle.links.proofs.laws.changes_are_closed.Goals as goal

pub returns : goal.returns
returns c = record { linked = linked_adds; joined = joined_joins; without = without_drops; priced = priced_sets }
