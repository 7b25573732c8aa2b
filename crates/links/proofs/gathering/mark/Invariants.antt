use Rattle.std.proofs.Common.{◌≡◌, length, take}
use Rattle.links.specs.Gathering.{MarksMore}
use Rattle.links.proofs.gathering.mark.Given as goal

abbrev pub invariant-loop-place : goal.invariant-loop-place
invariant-loop-place l = record {
  sized : length l.marks.items ≡ length l.fn.marks.items;
  marks : MarksMore (length l.fn.marks.items) l.fn.marks.items (take l.place-index l.places) l.marks.items;
}
