use Rattle.std.proofs.Common.{◌*◌}
use Rattle.dep_graph.specs.Changes.{takes_descendant}
use Rattle.dep_graph.proofs.Loops.{InProgress}
use Rattle.dep_graph.proofs.rows.take_descendant.Given as goal

abbrev pub invariant-loop-place : goal.invariant-loop-place
invariant-loop-place g l = InProgress (64 * g.row.W) (takes_descendant l.gone) l.places l.initial.rows l.rows l.yielded l.place-iterator
