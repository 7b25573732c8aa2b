use Rattle.std.proofs.Common.{◌≡◌, ◌*◌}
use Rattle.bitset.specs.Places.{places}
use Rattle.dep_graph.proofs.Copying.{Copying, MeetsRows}
use Rattle.dep_graph.proofs.rows.copy_rows.Given as goal

abbrev pub invariant-loop-place : goal.invariant-loop-place
invariant-loop-place g l =
    Copying (MeetsRows l.from l.within) (places (64 * g.row.W) l.within) l.initial.rows.items l.rows.items l.yielded l.place-iterator
    × (l.rows.capacity ≡ l.initial.rows.capacity)
