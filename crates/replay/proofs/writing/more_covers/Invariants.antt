use Rattle.std.proofs.Common.{◌≡◌, ◌++◌, map}
use Rattle.graph_model.specs.Texts.{edge_line}
use Rattle.replay.specs.Writings.{GoesOnLines}
use Rattle.replay.proofs.writing.more_covers.Given as goal

-- the edges from the parents so far were written
abbrev pub invariant-loop-parent : goal.invariant-loop-parent
invariant-loop-parent g l = record {
  rest : l.fn.parents ≡ l.yielded ++ l.parent-iterator;
  out : GoesOnLines l.fn.so_far (g.K.Sink.written l.fn.sink) (g.K.Sink.written l.sink) (g.K.Sink.faults l.fn.sink) (g.K.Sink.faults l.sink) l.so_far
      (map (λ parent. edge_line parent l.fn.child) l.yielded);
}
