-- the keys of the names so far stand in the list
use Rattle.std.proofs.Common.{◌≡◌, ◌<◌, ℕ, length, slice_get}
use Rattle.std.specs.Prelude.{slice_index}
use Rattle.name_book.specs.Tables.{key_of}
use Rattle.name_book.proofs.keys.look_up.Given as goal

abbrev pub invariant-loop-i : goal.invariant-loop-i
invariant-loop-i l = record {
  long : length l.keys ≡ 16;
  keys : (k : ℕ) → k < l.i → key_of l.names.entries (slice_index l.ids k) ≡ slice_get l.keys k;
}
