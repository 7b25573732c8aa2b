use Rattle.std.proofs.Common.{ℕ, List, [], ◌++◌, inl, inr, refl, sym, subst, append-nil}
use Rattle.std.specs.Io.KnownBytes.{Appends}
use Rattle.outside.specs.Transfers.{AppendsFront}
use Rattle.graph_model.specs.Runs.{answer_text}
use Rattle.replay.specs.Gatherings.{HasSent}
use Rattle.replay.proofs.GatherLemmas.{sent_all, sent_front}
use Rattle.replay.proofs.load.prove.Goals as goal

pub returns-in-Err-clause-tells : goal.returns-in-Err-clause-tells
returns-in-Err-clause-tells g c =
    let (answer, is, gathers, outcome) = c.tell.ensures.gathers in
    let old = g.K.Sink.written c.args.sink.now in
    let new = g.K.Sink.written c.tell.new.sink in
    let front : AppendsFront old new (c.args.replies.now ++ answer_text answer) = rw c.in-Err.is at gathers.err in (
      answer_text answer,
      (answer, is, refl),
      inr (refl, subst (λ (held : List ℕ). AppendsFront old new (held ++ answer_text answer)) c.requires.none_held front),
    )

pub returns-in-Ok-send-clause-tells : goal.returns-in-Ok-send-clause-tells
returns-in-Ok-send-clause-tells g c =
    let (answer, is, gathers, outcome) = c.tell.ensures.gathers in
    let old = g.K.Sink.written c.args.sink.now in
    let sent = g.K.Sink.written c.tell.new.sink in
    let new = g.K.Sink.written c.send.new.sink in
    let first : HasSent old sent (c.args.replies.now ++ answer_text answer) c.tell.new.self = rw c.in-Ok.is at gathers.ok in
    let then = rw c.in-Ok-send.is at c.send.ensures.ok in (
      answer_text answer,
      (answer, is, refl),
      inl (
        refl,
        sent_all old sent new (answer_text answer) c.tell.new.self
            (subst (λ (held : List ℕ). HasSent old sent (held ++ answer_text answer) c.tell.new.self) c.requires.none_held first) then.1,
      ),
    )

pub returns-clause-tells : goal.returns-clause-tells
returns-clause-tells g c =
    let (answer, is, gathers, outcome) = c.tell.ensures.gathers in
    let old = g.K.Sink.written c.args.sink.now in
    let sent = g.K.Sink.written c.tell.new.sink in
    let new = g.K.Sink.written c.send.new.sink in
    let text = answer_text answer in
    let left = c.tell.new.self in
    let first : HasSent old sent (c.args.replies.now ++ text) left = rw c.in-Ok.is at gathers.ok in
    let then : AppendsFront sent new left = rw c.in-Err-send.is at c.send.ensures.err in (
      text,
      (answer, is, refl),
      inr (
        refl,
        subst (λ (bytes : List ℕ). AppendsFront old new bytes) (append-nil text)
            (sent_front old sent new text left [] (subst (λ (held : List ℕ). HasSent old sent (held ++ text) left) c.requires.none_held first)
            (subst (λ (bytes : List ℕ). AppendsFront sent new bytes) (sym (append-nil left)) then)),
      ),
    )
