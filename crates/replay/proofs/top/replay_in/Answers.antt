-- What the end of the reading says, by status.
use Rattle.replay.proofs.LimitLemmas.{within_limit, told_replays, told_memory, told_faults}
use Rattle.replay.proofs.top.replay_in.Goals as goal

pub returns-in-Ok-clause-replays : goal.returns-in-Ok-clause-replays
returns-in-Ok-clause-replays g c =
    told_replays c.in-Ok.end c.status_of.result _ _ g.K.Sink.written c.args.sink.now c.answer_lines.new.sink c.in-Ok.ensures.answered c.status_of.ensures

pub returns-in-Ok-clause-no_memory : goal.returns-in-Ok-clause-no_memory
returns-in-Ok-clause-no_memory g c e = absurd (told_memory c.in-Ok.end c.status_of.result c.status_of.ensures e)

pub returns-in-Ok-clause-faults : goal.returns-in-Ok-clause-faults
returns-in-Ok-clause-faults g c =
    told_faults c.in-Ok.end c.status_of.result _ _ _ _ c.in-Ok.ensures.reads c.in-Ok.ensures.writes.ok c.status_of.ensures

pub returns-in-Ok-clause-within_limit : goal.returns-in-Ok-clause-within_limit
returns-in-Ok-clause-within_limit g c =
    let answered = c.in-Ok.ensures.answered in within_limit _ _ c.in-Ok.end answered.input c.status_of.result answered.read c.status_of.ensures
