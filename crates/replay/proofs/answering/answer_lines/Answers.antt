use Rattle.std.proofs.Common.{◌≡◌, ℕ, List, [], Option, Result, Ok, Err, IfOk, OnErr, refl, sym, subst, ◌∙◌, inl, inr, arith}
use Rattle.replay.specs.declared.input.End.{End}
use Rattle.replay.specs.declared.lines.Next.{Next}
use Rattle.replay.specs.Cuts.{GivesNext}
use Rattle.replay.specs.Statuses.{IsAnswered}
use Rattle.replay.proofs.TurnLemmas.{Turn, played_nothing, played_sent, played_line, line_cut_off, held_cut_off, end_cut_off, at_end, at_limit, at_fault, is_line}
use Rattle.replay.proofs.answering.answer_lines.Goals as goal

-- what holds where the last replies went out, and where they didn't
told_of : {E : Type 0} (end : End) (left now first written : Option (List ℕ)) {P : Type 0} (result : Result End E)
    → IfOk result (λ told. (told ≡ end) × P) → (P → IsAnswered end left now first written) → IfOk result (λ told. IsAnswered told left now first written)
told_of end left now first written (Ok reached) is answered = subst (λ (e : End). IsAnswered e left now first written) (sym is.0) (answered is.1)
told_of end left now first written (Err error) is answered = tt

err_of : {T E P Q : Type 0} (result : Result T E) → OnErr result P → (P → Q) → OnErr result Q
err_of (Ok value) err follows = tt
err_of (Err error) err follows = follows err

pub turns-init : goal.turns-init
turns-init g c =
    let asks = c.requires in
    record {
      played = played_nothing c.args.session.now c.args.lines.now c.args.replies.now (g.S.Source.left c.args.source.now)
          (g.K.Sink.written c.args.sink.now) asks.fresh asks.none_added asks.none_held asks.none_dropped asks.none_taken asks.going asks.no_replies;
      within = omega (arith, asks.none_taken);
      reads = refl;
      writes = refl;
    }

pub returns-in-Err-clause-cut_off : goal.returns-in-Err-clause-cut_off
returns-in-Err-clause-cut_off g c =
    held_cut_off c.turns.session c.turns.lines c.turns.replies (g.S.Source.left c.args.source.now)
    (g.S.Source.left c.turns.source) (g.K.Sink.written c.args.sink.now) (g.K.Sink.written c.turns.sink)
    (g.K.Sink.written c.make_way.new.sink) c.turns.invariant.played c.turns.invariant.within c.in-Err.ensures.err

pub turns-preserved : goal.turns-preserved
turns-preserved g c =
    let left = g.S.Source.left c.args.source.now in
    let before = g.S.Source.left c.turns.source in
    let now = g.S.Source.left c.next.new.source in
    let first = g.K.Sink.written c.args.sink.now in
    let sent = g.K.Sink.written c.make_way.new.sink in
    let held = c.make_way.new.replies in
    let new = c.next.follows.lender-at-none in
    let played = played_sent c.turns.session c.turns.lines c.turns.replies held left before first
    (g.K.Sink.written c.turns.sink) sent c.turns.invariant.played c.in-Ok.ensures.ok in
    let gives =
    subst (λ (n : Next). GivesNext c.turns.lines new before now played.rest n) c.in-Line.is (c.next.follows.holds-at-none.0 played.rest played.leaves) in
    let turn : Turn c.turns.session c.turns.lines new held left before now first sent gives.gives.0 =
    record { played = played; more = gives.more; reads = gives.reads; gives = gives.gives.2 } in
    let step = c.gather.ensures.line gives.gives.0 (is_line c.in-Line.piece gives.gives.0 gives.gives.1) in
    let tells = rw c.in-Ok-gather.is at step.2 in
    record {
      played = played_line c.turns.session c.gather.new.self c.turns.lines new held c.gather.new.replies gives.gives.0 left before now first sent
          (g.K.Sink.written c.gather.new.sink) step.0 turn step.1 tells.ok c.gather.ensures.additions;
      within = c.next.follows.holds-at-none.1;
      reads = c.in-Line.ensures.faults ∙ c.turns.invariant.reads;
      writes = c.in-Ok-gather.ensures.cause.ok ∙ c.in-Ok.ensures.cause.ok ∙ c.turns.invariant.writes;
    }

pub returns-in-Err-gather-clause-cut_off : goal.returns-in-Err-gather-clause-cut_off
returns-in-Err-gather-clause-cut_off g c =
    let left = g.S.Source.left c.args.source.now in
    let before = g.S.Source.left c.turns.source in
    let now = g.S.Source.left c.next.new.source in
    let first = g.K.Sink.written c.args.sink.now in
    let sent = g.K.Sink.written c.make_way.new.sink in
    let held = c.make_way.new.replies in
    let new = c.next.follows.lender-at-none in
    let played = played_sent c.turns.session c.turns.lines c.turns.replies held left before first
    (g.K.Sink.written c.turns.sink) sent c.turns.invariant.played c.in-Ok.ensures.ok in
    let gives =
    subst (λ (n : Next). GivesNext c.turns.lines new before now played.rest n) c.in-Line.is (c.next.follows.holds-at-none.0 played.rest played.leaves) in
    let turn : Turn c.turns.session c.turns.lines new held left before now first sent gives.gives.0 =
    record { played = played; more = gives.more; reads = gives.reads; gives = gives.gives.2 } in
    let step = c.gather.ensures.line gives.gives.0 (is_line c.in-Line.piece gives.gives.0 gives.gives.1) in
    let tells = rw c.in-Err-gather.is at step.2 in
    line_cut_off c.turns.session c.gather.new.self c.turns.lines new held gives.gives.0 left before now first sent
    (g.K.Sink.written c.gather.new.sink) step.0 turn step.1 tells.err c.next.follows.holds-at-none.1

pub returns-in-End-clause-answered : goal.returns-in-End-clause-answered
returns-in-End-clause-answered g c =
    let left = g.S.Source.left c.args.source.now in
    let before = g.S.Source.left c.turns.source in
    let now = g.S.Source.left c.next.new.source in
    let first = g.K.Sink.written c.args.sink.now in
    let sent = g.K.Sink.written c.make_way.new.sink in
    let held = c.make_way.new.replies in
    let new = c.next.follows.lender-at-none in
    let played = played_sent c.turns.session c.turns.lines c.turns.replies held left before first
    (g.K.Sink.written c.turns.sink) sent c.turns.invariant.played c.in-Ok.ensures.ok in
    let gives =
    subst (λ (n : Next). GivesNext c.turns.lines new before now played.rest n) c.in-End.is (c.next.follows.holds-at-none.0 played.rest played.leaves) in
    told_of _ _ _ _ _ c.finish.result c.finish.ensures.ok (at_end c.turns.session c.turns.lines new held left before now first sent
    (g.K.Sink.written c.finish.new.sink) played gives c.next.follows.holds-at-none.1)

pub returns-in-End-clause-cut_off : goal.returns-in-End-clause-cut_off
returns-in-End-clause-cut_off g c =
    let left = g.S.Source.left c.args.source.now in
    let before = g.S.Source.left c.turns.source in
    let now = g.S.Source.left c.next.new.source in
    let first = g.K.Sink.written c.args.sink.now in
    let sent = g.K.Sink.written c.make_way.new.sink in
    let held = c.make_way.new.replies in
    let new = c.next.follows.lender-at-none in
    let played = played_sent c.turns.session c.turns.lines c.turns.replies held left before first
    (g.K.Sink.written c.turns.sink) sent c.turns.invariant.played c.in-Ok.ensures.ok in
    err_of c.finish.result c.finish.ensures.err (end_cut_off c.turns.session c.turns.lines new held left before now first sent
    (g.K.Sink.written c.finish.new.sink) c.next.result played (c.next.follows.holds-at-none.0 played.rest played.leaves) c.next.follows.holds-at-none.1)

pub returns-in-Limit-clause-answered : goal.returns-in-Limit-clause-answered
returns-in-Limit-clause-answered g c =
    let left = g.S.Source.left c.args.source.now in
    let before = g.S.Source.left c.turns.source in
    let now = g.S.Source.left c.next.new.source in
    let first = g.K.Sink.written c.args.sink.now in
    let sent = g.K.Sink.written c.make_way.new.sink in
    let held = c.make_way.new.replies in
    let new = c.next.follows.lender-at-none in
    let played = played_sent c.turns.session c.turns.lines c.turns.replies held left before first
    (g.K.Sink.written c.turns.sink) sent c.turns.invariant.played c.in-Ok.ensures.ok in
    let gives =
    subst (λ (n : Next). GivesNext c.turns.lines new before now played.rest n) c.in-Limit.is (c.next.follows.holds-at-none.0 played.rest played.leaves) in
    told_of _ _ _ _ _ c.finish-in-Limit.result c.finish-in-Limit.ensures.ok (at_limit c.turns.session c.turns.lines new held left before now first sent
    (g.K.Sink.written c.finish-in-Limit.new.sink) played gives c.next.follows.holds-at-none.1)

pub returns-in-Limit-clause-cut_off : goal.returns-in-Limit-clause-cut_off
returns-in-Limit-clause-cut_off g c =
    let left = g.S.Source.left c.args.source.now in
    let before = g.S.Source.left c.turns.source in
    let now = g.S.Source.left c.next.new.source in
    let first = g.K.Sink.written c.args.sink.now in
    let sent = g.K.Sink.written c.make_way.new.sink in
    let held = c.make_way.new.replies in
    let new = c.next.follows.lender-at-none in
    let played = played_sent c.turns.session c.turns.lines c.turns.replies held left before first
    (g.K.Sink.written c.turns.sink) sent c.turns.invariant.played c.in-Ok.ensures.ok in
    err_of c.finish-in-Limit.result c.finish-in-Limit.ensures.err
    (end_cut_off c.turns.session c.turns.lines new held left before now first sent (g.K.Sink.written c.finish-in-Limit.new.sink) c.next.result played
    (c.next.follows.holds-at-none.0 played.rest played.leaves) c.next.follows.holds-at-none.1)

pub returns-in-Fault-clause-answered : goal.returns-in-Fault-clause-answered
returns-in-Fault-clause-answered g c =
    let left = g.S.Source.left c.args.source.now in
    let before = g.S.Source.left c.turns.source in
    let now = g.S.Source.left c.next.new.source in
    let first = g.K.Sink.written c.args.sink.now in
    let sent = g.K.Sink.written c.make_way.new.sink in
    let held = c.make_way.new.replies in
    let new = c.next.follows.lender-at-none in
    let played = played_sent c.turns.session c.turns.lines c.turns.replies held left before first
    (g.K.Sink.written c.turns.sink) sent c.turns.invariant.played c.in-Ok.ensures.ok in
    let gives =
    subst (λ (n : Next). GivesNext c.turns.lines new before now played.rest n) c.in-Fault.is (c.next.follows.holds-at-none.0 played.rest played.leaves) in
    let none : held ≡ [] = elim c.in-Ok.ensures.empty [ inl empty ↦ empty | inr ready ↦ absurd ((c.next.ensures.ready ready).1 c.in-Fault.is) ] in
    at_fault c.turns.session c.turns.lines new held left before now first sent played gives c.next.follows.holds-at-none.1 none
