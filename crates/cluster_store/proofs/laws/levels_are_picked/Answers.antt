use Rattle.cluster_store.proofs.Unions.{levels_are_picked}
use Rattle.cluster_store.proofs.laws.levels_are_picked.Goals as goal

pub returns : goal.returns
returns c = levels_are_picked
