use Rattle.std.proofs.Common.{◌*◌}
use Rattle.bitset.specs.Places.{places}
use Rattle.dep_graph.proofs.Copying.{Numbering}
use Rattle.order_tests.proofs.dep_graph_tests.renumbered.Given as goal

abbrev pub invariant-loop-place : goal.invariant-loop-place
invariant-loop-place g l = Numbering (places (64 * g.row.W) l.within) l.fn.first l.old l.numbers l.number l.yielded l.place-iterator
