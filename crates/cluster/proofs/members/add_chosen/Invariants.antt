use Rattle.std.proofs.Common.{◌≡◌, ◌*◌, ◌+◌, ◌++◌, length, map, slice_index}
use Rattle.bitset.specs.Places.{places}
use Rattle.cluster.proofs.members.add_chosen.Given as goal

abbrev pub invariant-loop-place : goal.invariant-loop-place
invariant-loop-place g l = record {
  split : l.yielded ++ l.place-iterator ≡ places (64 * g.row.W) l.chosen;
  copied : l.out.ids ≡ l.initial.out.ids ++ map (slice_index l.names) l.yielded;
  room : length l.out.ids + l.out.room ≡ length l.initial.out.ids + l.initial.out.room;
}
