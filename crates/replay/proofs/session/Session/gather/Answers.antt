use Rattle.std.proofs.Common.{subst, sym, List, ℕ, ◌≡◌, ◌<◌, ◌≤◌, ◌+◌, lit<}
use Rattle.reorg.specs.Kept.{Kept}
use Rattle.replay.specs.Answers.{Tells}
use Rattle.replay.specs.Sessions.{Answers}
use Rattle.replay.proofs.session.Session.gather.Goals as goal

pub returns-clause-line : goal.returns-clause-line
returns-clause-line g c line is =
    let told = c.tell.ensures.gathers in
    let ids : c.ids.result.now ≡ c.answer-found.new.ids.ids = c.ids.ensures in
    let tells = subst (λ (names : List ℕ). Tells c.answer-found.new.pool c.answer-found.result names told.0) ids told.1 in
    let answers = subst (λ k. Answers k c.answer-found.new.pool line told.0) c.self.view_is (c.answer-found.ensures.line line is told.0 tells) in
    (told.0, answers, told.2)

pub answer-found-requires : goal.answer-found-requires
answer-found-requires g c =
    let few = subst (λ (k : Kept). k.graph.levels.issued + 32766 ≤ 18446744073709551615) (sym c.self.view_is) c.requires in
    (lit< tt, (few, c.self.invariant))

pub returns-clause-cause : goal.returns-clause-cause
returns-clause-cause g c = c.tell.ensures.cause

pub returns-clause-additions : goal.returns-clause-additions
returns-clause-additions g c =
    subst (λ (k : Kept). c.answer-found.new.pool.graph.levels.issued ≤ k.graph.levels.issued + 32766) c.self.view_is c.answer-found.ensures.additions

pub tell-requires-room-G-Obeys : goal.tell-requires-room-G-Obeys
tell-requires-room-G-Obeys g c = λ κs below. lit< tt
