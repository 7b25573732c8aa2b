-- kin of the names before the cut are listed, and there is room for those of the others
use Rattle.std.proofs.Common.{◌≡◌, ◌+◌, length}
use Rattle.levels.proofs.Kins.{IsAdding}
use Rattle.levels.proofs.shelves.Shelves.add_all.Given as goal

abbrev pub invariant-loop-left : goal.invariant-loop-left
invariant-loop-left g l = record {
  way : IsAdding l.fn.kin l.fn.level l.fn.self l.fn.ids l.left l.out.ids l.out.room;
  same : l.self ≡ l.fn.self;
  room : length l.out.ids + l.out.room ≡ l.fn.out.room;
}

abbrev pub decreases-loop-left : goal.decreases-loop-left
decreases-loop-left g l = length l.left
