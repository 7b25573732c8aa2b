-- the list has the pairs of the names so far, and the links are as they were
use Rattle.std.proofs.Common.{◌≡◌, take}
use Rattle.reorg.specs.Blocks.{ArePairsBy, LeadsTo}
use Rattle.reorg.proofs.linking.pairs_below.Given as goal

abbrev pub invariant-loop-id : goal.invariant-loop-id
invariant-loop-id l = record {
  same : l.links ≡ l.fn.links;
  pairs : ArePairsBy (LeadsTo l.fn.links.pairs) (take l.id-index l.ids) l.list.items;
}
