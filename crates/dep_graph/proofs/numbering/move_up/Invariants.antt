use Rattle.std.proofs.Common.{◌*◌}
use Rattle.dep_graph.specs.Moves.{IsMovedUp}
use Rattle.dep_graph.proofs.Moving.{Changing}
use Rattle.dep_graph.proofs.numbering.move_up.Given as goal

abbrev pub invariant-loop-i : goal.invariant-loop-i
invariant-loop-i g l = Changing (IsMovedUp (64 * g.row.W) l.first) l.first l.initial.rows l.rows l.i
