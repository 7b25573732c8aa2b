use Rattle.std.proofs.Common.{◌≡◌, ◌≤◌}
use Rattle.graph_model.specs.Lines.{max_input}
use Rattle.replay.specs.Cuts.{ahead}
use Rattle.replay.proofs.TurnLemmas.{Played}
use Rattle.replay.proofs.answering.answer_lines.Given as goal

-- so far lines of the input were answered
abbrev pub invariant-turns : goal.invariant-turns
invariant-turns g l = record {
  played : Played l.session l.lines l.replies (g.S.Source.left l.fn.source) (g.S.Source.left l.source) (g.K.Sink.written l.fn.sink) (g.K.Sink.written l.sink);
  within : l.lines.taken ≤ max_input;
  reads : g.S.Source.faults l.source ≡ g.S.Source.faults l.fn.source;
  writes : g.K.Sink.faults l.sink ≡ g.K.Sink.faults l.fn.sink;
}

abbrev pub decreases-turns : goal.decreases-turns
decreases-turns g l = ahead l.lines
