use Rattle.std.proofs.Common.{◌≡◌, length}
use Rattle.links.proofs.Marks.{AreLeft}
use Rattle.trimming.proofs.room.unmark.Given as goal

abbrev pub invariant-loop-at : goal.invariant-loop-at
invariant-loop-at l = record {
  found : l.room.found ≡ l.fn.room.found;
  sized : length l.room.marks.items ≡ length l.fn.room.marks.items;
  left : AreLeft (length l.fn.room.marks.items) l.room.marks.items l.fn.room.found.items l.at;
}
