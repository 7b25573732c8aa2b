use Rattle.std.proofs.Common.{map, sym}
use Rattle.std.specs.Prelude.{string_bytes}
use Rattle.program.specs.Endings.{Ending, Runs}
use Rattle.program.proofs.EndLemmas.{run_ends, unbegun_ends}
use Rattle.program.proofs.ended.ended_run.Goals.{in-Ok, in-Err}
use Rattle.program.proofs.ended.ended_run.Goals as goal

pub returns : goal.returns
returns g c =
    let left = g.S.Source.left in
    let reads = g.S.Source.faults in
    let written = g.K.Sink.written in
    let writes = g.K.Sink.faults in
    let end : Ending _ _ = record { status = c.match-words.status; source = c.match-words.source; sink = c.match-words.sink } in
    elim c.match-words.branch [
      | in-Ok w ↦
          let told = w.run-status.ensures in
          let ran : Runs left reads written writes (map string_bytes w.deref.result.now) c.args.source c.args.sink
          (record { status = w.run-status.result; source = w.run-status.new.source; sink = w.run-status.new.sink }) = record {
            replays = told.replays;
            checks = told.checks;
            loads = told.loads;
            generates = told.generates;
            refuses = told.refuses;
            no_memory = told.no_memory;
            words = told.words;
            faults = told.faults;
            complete = told.complete;
            within_limit = told.within_limit;
          } in
          run_ends left reads written writes c.args.source c.args.sink end c.args.given c.words.result w.in-Ok.words w.in-Ok.is c.words.ensures
          (rw (w.status-is, w.source-is, w.sink-is, sym w.deref.ensures.value) ran)
      | in-Err w ↦
          unbegun_ends left reads written writes c.args.source c.args.sink end c.args.given c.words.result w.in-Err.field-0 w.in-Err.is c.words.ensures
          (w.status-is, w.source-is, w.sink-is)
    ]
