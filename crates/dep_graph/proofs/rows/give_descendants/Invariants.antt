use Rattle.std.proofs.Common.{◌*◌}
use Rattle.dep_graph.specs.Changes.{gives_descendants}
use Rattle.dep_graph.proofs.Loops.{InProgress}
use Rattle.dep_graph.proofs.rows.give_descendants.Given as goal

abbrev pub invariant-loop-place : goal.invariant-loop-place
invariant-loop-place g l = InProgress (64 * g.row.W) (gives_descendants l.more) l.places l.initial.rows l.rows l.yielded l.place-iterator
