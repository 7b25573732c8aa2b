use Rattle.std.proofs.Common.{take, map, decimal}
use Rattle.wire.specs.Pieces.{GoesOn, words_text}
use Rattle.wire.proofs.write.more_numbers.Given as goal

-- the numbers so far were written on
abbrev pub invariant-loop-id : goal.invariant-loop-id
invariant-loop-id g l =
    GoesOn l.fn.so_far (g.K.Sink.written l.fn.sink) (g.K.Sink.written l.sink) (g.K.Sink.faults l.fn.sink)
    (g.K.Sink.faults l.sink) l.so_far (words_text (map decimal (take l.id-index l.ids)))
