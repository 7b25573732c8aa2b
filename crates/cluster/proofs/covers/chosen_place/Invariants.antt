use Rattle.std.proofs.Common.{◌≡◌, ◌≢◌, ◌*◌, ◌++◌, All, slice_index}
use Rattle.bitset.specs.Places.{places}
use Rattle.cluster.proofs.covers.chosen_place.Given as goal

-- none of those before stands there
abbrev pub invariant-loop-place : goal.invariant-loop-place
invariant-loop-place g l = record {
  split : l.yielded ++ l.place-iterator ≡ places (64 * g.row.W) l.chosen;
  none : All (λ p. slice_index l.names p ≢ l.id) l.yielded;
}
