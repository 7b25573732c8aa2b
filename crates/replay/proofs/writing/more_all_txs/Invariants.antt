use Rattle.std.proofs.Common.{◌≡◌, ◌++◌, map, Contains}
use Rattle.cluster_store.specs.Held.{Held, held_part}
use Rattle.graph_model.specs.Answers.{order_of}
use Rattle.levels.specs.Held.{IsHeldIn}
use Rattle.levels.specs.Levels.{level_at}
use Rattle.replay.specs.Writings.{GoesOnLines, tx_line_of}
use Rattle.replay.proofs.writing.more_all_txs.Given as goal

-- the transactions of the parts so far were written
abbrev pub invariant-loop-part : goal.invariant-loop-part
invariant-loop-part g l =
    let level = level_at l.fn.graph.levels l.fn.level in
    record {
      rest : level.parts ≡ map (λ x. (held_part x).part) l.yielded ++ map (λ (h : Held). h.part) l.part-iterator;
      held : (h : Held) → Contains l.part-iterator h → IsHeldIn level h;
      out : GoesOnLines l.fn.so_far (g.K.Sink.written l.fn.sink) (g.K.Sink.written l.sink) (g.K.Sink.faults l.fn.sink) (g.K.Sink.faults l.sink) l.so_far
          (map (tx_line_of level.graph) (order_of (map (λ x. (held_part x).part) l.yielded)));
    }
