use Rattle.std.proofs.Common.{◌≡◌, ◌++◌, map}
use Rattle.cluster_store.specs.Lent.{lent}
use Rattle.graph_model.specs.Texts.{chunk_line}
use Rattle.replay.specs.Writings.{GoesOnLines}
use Rattle.replay.proofs.writing.more_chunks.Given as goal

-- the parts so far were written
abbrev pub invariant-loop-part : goal.invariant-loop-part
invariant-loop-part g l = record {
  rest : l.fn.parts ≡ map lent l.yielded ++ l.part-iterator;
  out : GoesOnLines l.fn.so_far (g.K.Sink.written l.fn.sink) (g.K.Sink.written l.sink) (g.K.Sink.faults l.fn.sink) (g.K.Sink.faults l.sink) l.so_far
      (map chunk_line (map lent l.yielded));
}
