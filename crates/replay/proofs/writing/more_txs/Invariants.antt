use Rattle.std.proofs.Common.{map, take}
use Rattle.replay.specs.Writings.{GoesOnLines, tx_line_of}
use Rattle.replay.proofs.writing.more_txs.Given as goal

-- the transactions so far were written
abbrev pub invariant-loop-id : goal.invariant-loop-id
invariant-loop-id g l =
    GoesOnLines l.fn.so_far (g.K.Sink.written l.fn.sink) (g.K.Sink.written l.sink) (g.K.Sink.faults l.fn.sink) (g.K.Sink.faults l.sink) l.so_far
    (map (tx_line_of l.fn.cluster.graph) (take l.id-index l.ids))
