-- the list has the pairs of the names so far, and there is room for a cluster
use Rattle.std.proofs.Common.{◌≡◌, ◌+◌, ◌*◌, length, take}
use Rattle.reorg.specs.Blocks.{ArePairsOf}
use Rattle.reorg.proofs.making.pairs_in_clusters.Given as goal

abbrev pub invariant-loop-id : goal.invariant-loop-id
invariant-loop-id g l = record {
  room : length l.found.ids + l.found.room ≡ 64 * g.row.W;
  pairs : ArePairsOf l.graph.levels.main.graph (take l.id-index l.ids) l.list.items;
}
