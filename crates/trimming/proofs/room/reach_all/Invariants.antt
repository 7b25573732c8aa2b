use Rattle.std.proofs.Common.{ℕ, length, take}
use Rattle.std.specs.Prelude.{Contains}
use Rattle.links.specs.Walkers.{Finds}
use Rattle.trimming.specs.Rooms.{IsFinding}
use Rattle.trimming.proofs.room.reach_all.Given as goal

abbrev pub invariant-loop-place : goal.invariant-loop-place
invariant-loop-place l = record {
  finding : IsFinding (length l.fn.room.marks.items) l.room;
  finds : Finds (Contains l.places) l.fn.room.found.items l.room.found.items;
  found : (p : ℕ) → Contains (take l.place-index l.places) p → Contains l.room.found.items p;
}
