use Rattle.std.proofs.Common.{◌≡◌, ◌*◌, ◌++◌, map, slice_index}
use Rattle.bitset.specs.Places.{places}
use Rattle.cluster.proofs.members.copy_names.Given as goal

abbrev pub invariant-loop-place : goal.invariant-loop-place
invariant-loop-place g l = record {
  split : l.yielded ++ l.place-iterator ≡ places (64 * g.row.W) l.chosen;
  copied : l.names.items ≡ l.initial.names.items ++ map (slice_index l.from) l.yielded;
}
