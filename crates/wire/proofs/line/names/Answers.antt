use Rattle.std.proofs.Common.{◌∙◌, sym, ap, ◌++◌, List, ℕ}
use Rattle.wire.proofs.ChunkLemmas.{fronts, front_no_names, last_no_names}
use Rattle.wire.proofs.NameLemmas.{has_room, one_read, last_read, last_room}
use Rattle.wire.proofs.line.names.Goals as goal

pub returns-in_err-number-clause-none : goal.returns-in_err-number-clause-none
returns-in_err-number-clause-none c =
    let read = c.loop-word.invariant in
    rw c.from_residual.ensures (λ others fits is.
    front_no_names c.loop-word.ids.ids c.in-Some.word.now c.in-Some.more.now read.wide c.in-Some.ensures.found.1 c.in_err-number.ensures others fits
    (ap (λ (xs : List ℕ). fronts c.loop-word.ids.ids ++ xs) (sym c.in-Some.ensures.found.0) ∙ sym read.whole ∙ is))

pub push-requires : goal.push-requires
push-requires c = has_room _ _ _ _ c.loop-word.invariant c.requires.room

pub loop-word-preserved : goal.loop-word-preserved
loop-word-preserved c = one_read _ _ _ _ _ _ _ _ c.loop-word.invariant c.in-Some.ensures.found.0 c.in_ok-number.ensures
    (has_room _ _ _ _ c.loop-word.invariant c.requires.room) c.push.ensures

pub returns-in_err-number-2-clause-none : goal.returns-in_err-number-2-clause-none
returns-in_err-number-2-clause-none c =
    let read = c.loop-word.invariant in
    rw c.from_residual-in_err-number-2.ensures (λ others fits is.
    last_no_names c.loop-word.ids.ids c.loop-word.rest.now read.wide c.in_default.ensures.none c.in_err-number-2.ensures others fits (sym read.whole ∙ is))

pub push-requires-2 : goal.push-requires-2
push-requires-2 c = has_room _ _ _ _ c.loop-word.invariant c.requires.room

pub returns-clause-found : goal.returns-clause-found
returns-clause-found c =
    last_read _ _ _ _ _ _ c.loop-word.invariant c.in_ok-number-2.ensures (has_room _ _ _ _ c.loop-word.invariant c.requires.room) c.push-2.ensures

pub returns-clause-room : goal.returns-clause-room
returns-clause-room c = last_room _ _ _ _ _ _ c.loop-word.invariant (has_room _ _ _ _ c.loop-word.invariant c.requires.room) c.push-2.ensures
