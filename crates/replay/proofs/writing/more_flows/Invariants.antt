use Rattle.std.proofs.Common.{map, take}
use Rattle.graph_model.specs.Texts.{flow_line}
use Rattle.replay.specs.Writings.{GoesOnLines}
use Rattle.replay.proofs.writing.more_flows.Given as goal

-- the flows so far were written
abbrev pub invariant-loop-flow : goal.invariant-loop-flow
invariant-loop-flow g l =
    GoesOnLines l.fn.so_far (g.K.Sink.written l.fn.sink) (g.K.Sink.written l.sink) (g.K.Sink.faults l.fn.sink) (g.K.Sink.faults l.sink) l.so_far
    (map flow_line (take l.flow-index l.flows))
