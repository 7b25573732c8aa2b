-- the list has the names so far
use Rattle.std.proofs.Common.{◌≡◌, map, take}
use Rattle.reorg.specs.Blocks.{tx_of}
use Rattle.reorg.proofs.making.txs_of.Given as goal

abbrev pub invariant-loop-id : goal.invariant-loop-id
invariant-loop-id g l = l.list.items ≡ map (tx_of l.graph.levels.main.graph) (take l.id-index l.ids)
