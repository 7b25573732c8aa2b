use Rattle.dep_graph.specs.Moves.{IsMovedDown}
use Rattle.dep_graph.proofs.Moving.{Changing}
use Rattle.dep_graph.proofs.numbering.move_down.Given as goal

abbrev pub invariant-loop-i : goal.invariant-loop-i
invariant-loop-i g l = Changing (IsMovedDown l.moving l.by) l.first l.initial.rows l.rows l.i
