-- the set has none of the names so far
use Rattle.std.proofs.Common.{◌≡◌, ℕ, ◌<◌, ◌≤◌, false, nat_eq, slice_index}
use Rattle.indexmap.specs.IndexSet.{contains}
use Rattle.repeats.proofs.pieces.first_seen.Given as goal

abbrev pub invariant-loop-at : goal.invariant-loop-at
invariant-loop-at l = record {
  low : l.from ≤ l.at;
  none : (at : ℕ) → l.from ≤ at → at < l.at → contains nat_eq l.seen (slice_index l.ids at) ≡ false;
}
