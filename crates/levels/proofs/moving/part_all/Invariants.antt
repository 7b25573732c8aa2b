-- the clusters of the numbers so far are cut out
use Rattle.std.proofs.Common.{◌≡◌, ◌↔◌, ℕ, List, take}
use Rattle.cluster.specs.Clusters.{Cluster}
use Rattle.levels.specs.Changes.{AreAt}
use Rattle.levels.specs.Rings.{IsMarked}
use Rattle.levels.specs.Shelves.{stored_at}
use Rattle.levels.proofs.Cutting.{AreCut}
use Rattle.levels.proofs.moving.part_all.Given as goal

abbrev pub invariant-loop-number : goal.invariant-loop-number
invariant-loop-number g l = record {
  names : l.rings.book.names ≡ l.fn.rings.book.names;
  main : (clusters : List Cluster) → AreAt (stored_at l.shelves.store.clusters) l.list clusters → AreCut l.fn.rings (take l.number-index clusters) l.rings;
  touched : (x : ℕ) → IsMarked l.rings x ↔ IsMarked l.fn.rings x;
  issued : l.rings.book.issued ≡ l.fn.rings.book.issued;
}
