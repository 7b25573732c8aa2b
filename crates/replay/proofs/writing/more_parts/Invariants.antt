use Rattle.std.proofs.Common.{◌≡◌, ◌++◌, map}
use Rattle.std.specs.Prelude.{flat_map}
use Rattle.cluster_store.specs.Lent.{lent}
use Rattle.graph_model.specs.Texts.{part_lines}
use Rattle.replay.specs.Writings.{GoesOnLines}
use Rattle.replay.proofs.writing.more_parts.Given as goal

-- the parts so far were written with their flows
abbrev pub invariant-loop-part : goal.invariant-loop-part
invariant-loop-part g l = record {
  rest : l.fn.parts ≡ map lent l.yielded ++ l.part-iterator;
  out : GoesOnLines l.fn.so_far (g.K.Sink.written l.fn.sink) (g.K.Sink.written l.sink) (g.K.Sink.faults l.fn.sink) (g.K.Sink.faults l.sink) l.so_far
      (flat_map part_lines (map lent l.yielded));
}
