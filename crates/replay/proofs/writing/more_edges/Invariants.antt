use Rattle.std.proofs.Common.{ℕ, List, take}
use Rattle.replay.specs.Writings.{GoesOnLines, ListsOwn, edges_lines}
use Rattle.replay.proofs.writing.more_edges.Given as goal

-- the edges to the transactions so far were written
abbrev pub invariant-loop-id : goal.invariant-loop-id
invariant-loop-id g l =
    (edges : List (ℕ × ℕ)) × ListsOwn l.fn.cluster (take l.id-index l.ids) edges
    × GoesOnLines l.fn.so_far (g.K.Sink.written l.fn.sink) (g.K.Sink.written l.sink) (g.K.Sink.faults l.fn.sink) (g.K.Sink.faults l.sink) l.so_far
    (edges_lines edges)
