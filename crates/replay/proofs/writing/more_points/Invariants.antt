use Rattle.std.proofs.Common.{map}
use Rattle.graph_model.specs.Replies.{point_line}
use Rattle.replay.specs.Writings.{GoesOnLines}
use Rattle.replay.proofs.writing.more_points.Given as goal

-- the points so far were written
abbrev pub invariant-loop-size : goal.invariant-loop-size
invariant-loop-size g l =
    GoesOnLines l.fn.so_far (g.K.Sink.written l.fn.sink) (g.K.Sink.written l.sink) (g.K.Sink.faults l.fn.sink) (g.K.Sink.faults l.sink) l.so_far
    (map point_line l.yielded)
