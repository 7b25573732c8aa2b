-- The set has the names so far, and each of them stands once among them.
use Rattle.std.proofs.Common.{◌≡◌, ◌↔◌, ℕ, ◌+◌, ◌<◌, ◌≤◌, true, nat_eq, slice_index}
use Rattle.indexmap.specs.IndexSet.{contains, index_set_len}
use Rattle.indexmap.specs.IndexSet.{spare as room_of}
use Rattle.repeats.specs.Places.{NoneAgain, StandsWithin}
use Rattle.repeats.proofs.pieces.fill.Given as goal

abbrev pub invariant-loop-at : goal.invariant-loop-at
invariant-loop-at l = record {
  low : l.start ≤ l.at;
  seen : (id : ℕ) → (contains nat_eq l.seen id ≡ true) ↔ StandsWithin l.ids l.start l.at id;
  none : NoneAgain l.ids l.start l.end l.at;
  spare : room_of l.fn.seen + l.start ≤ room_of l.seen + l.at;
  room : room_of l.fn.seen ≤ index_set_len l.seen + room_of l.seen;
}
