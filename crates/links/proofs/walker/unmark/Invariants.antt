use Rattle.std.proofs.Common.{◌≡◌, length}
use Rattle.links.proofs.Marks.{AreLeft}
use Rattle.links.proofs.walker.unmark.Given as goal

abbrev pub invariant-loop-at : goal.invariant-loop-at
invariant-loop-at l = record {
  found : l.walker.found ≡ l.fn.walker.found;
  sized : length l.walker.marks.items ≡ length l.fn.walker.marks.items;
  left : AreLeft (length l.fn.walker.marks.items) l.walker.marks.items l.fn.walker.found.items l.at;
}
