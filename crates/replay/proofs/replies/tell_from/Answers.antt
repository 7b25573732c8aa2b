use Rattle.std.proofs.Common.{ap, sym, ◌∙◌}
use Rattle.std.specs.Io.KnownBytes.{append_known}
use Rattle.replay.proofs.GatherLemmas.{gathers_of}
use Rattle.replay.proofs.replies.tell_from.Goals as goal

pub returns-clause-gathers : goal.returns-clause-gathers
returns-clause-gathers g c =
    let parts = c.into_parts-sink.ensures in
    let first = ap (λ o. append_known (g.K.Sink.written o.sink) o.held) c.new-gathered.ensures in
    let second =
    ap (λ s. append_known (g.K.Sink.written s) c.tell-outcome.new.sink.held) (sym parts.sink)
    ∙ ap (append_known (g.K.Sink.written c.into_parts-sink.result.0)) (sym parts.held) in
    let told = c.tell-outcome.ensures in
    (told.0, told.1, gathers_of _ _ _ _ _ _ _ _ _ c.tell-outcome.result first second told.2 (rw c.requires.first parts.grows), told.3)
