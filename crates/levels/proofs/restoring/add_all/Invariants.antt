-- the names so far came in
use Rattle.std.proofs.Common.{◌≡◌, ◌+◌, take}
use Rattle.graph_model.specs.Changes.{ids_of}
use Rattle.levels.specs.Gathered.{GainsAll}
use Rattle.levels.proofs.restoring.add_all.Given as goal

abbrev pub invariant-loop-tx : goal.invariant-loop-tx
invariant-loop-tx l = record {
  gains : GainsAll (ids_of (take l.tx-index l.txs)) l.fn.rings l.rings;
  spare : l.rings.book.spare + l.tx-index ≡ l.fn.rings.book.spare;
}
