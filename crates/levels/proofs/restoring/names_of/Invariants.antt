-- the names so far
use Rattle.std.proofs.Common.{take, nat_eq}
use Rattle.std.specs.HashSet as bag
use Rattle.graph_model.specs.Changes.{ids_of}
use Rattle.levels.specs.Gathered.{HasNames}
use Rattle.levels.proofs.restoring.names_of.Given as goal

abbrev pub invariant-loop-tx : goal.invariant-loop-tx
invariant-loop-tx l = HasNames (bag.contains nat_eq l.names) (ids_of (take l.tx-index l.txs))
