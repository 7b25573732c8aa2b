use Rattle.std.proofs.Common.{◌*◌}
use Rattle.bitset.specs.Places.{places}
use Rattle.dep_graph.proofs.Moving.{Counting, Choosing}
use Rattle.dep_graph.proofs.numbering.moving.Given as goal

abbrev pub invariant-loop-place : goal.invariant-loop-place
invariant-loop-place g l = Counting (places (64 * g.row.W) l.within) l.number l.yielded l.place-iterator
    × Choosing (places (64 * g.row.W) l.within) l.fn.power l.moving l.number
