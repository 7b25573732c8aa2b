-- Of the names below the best position none stands earlier too, in the pieces so far.
use Rattle.std.proofs.Common.{◌≡◌, ◌⊎◌, ◌-◌, ◌<◌, ◌≤◌, length, slice_index}
use Rattle.repeats.specs.Places.{NoneAgain, StandsWithin}
use Rattle.repeats.proofs.pieces.Repeats.first.Given as goal

abbrev pub invariant-loop-start : goal.invariant-loop-start
invariant-loop-start l = record {
  same : l.self ≡ l.fn.self;
  low : l.best ≤ length l.ids;
  none : NoneAgain l.ids 0 l.start l.best;
  again : (l.best ≡ length l.ids) ⊎ ((l.best < length l.ids) × StandsWithin l.ids 0 l.best (slice_index l.ids l.best));
}

abbrev pub decreases-loop-start : goal.decreases-loop-start
decreases-loop-start l = l.best - l.start
