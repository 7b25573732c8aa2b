-- the names of the numbers so far are touched
use Rattle.std.proofs.Common.{take}
use Rattle.name_book.specs.Calls.{Touches}
use Rattle.levels.specs.Rings.{LeftOf}
use Rattle.levels.proofs.moving.touch_left.Given as goal

abbrev pub invariant-loop-number : goal.invariant-loop-number
invariant-loop-number g l = record {
  touches : Touches (LeftOf l.shelves (take l.number-index l.outs)) l.fn.rings l.rings;
}
