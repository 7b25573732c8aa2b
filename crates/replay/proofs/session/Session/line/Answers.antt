use Rattle.std.proofs.Common.{subst, sym, List, [], ℕ, ◌≡◌, ◌<◌, ◌≤◌, ◌+◌, lit<}
use Rattle.graph_model.specs.Lines.{Meaning}
use Rattle.reorg.specs.Kept.{Kept}
use Rattle.wire.specs.Readings.{meaning_of}
use Rattle.replay.specs.Answers.{Tells, AnswersMeaning}
use Rattle.replay.proofs.PlayLemmas.{meaning_alone, none_mined}
use Rattle.replay.proofs.session.Session.line.Goals as goal

pub returns-clause-line : goal.returns-clause-line
returns-clause-line g c =
    let told = c.tell.ensures in
    let ids : c.ids.result.now ≡ c.answer_line-found.new.ids.ids = c.ids.ensures in
    let tells = subst (λ (names : List ℕ). Tells c.answer_line-found.new.pool c.answer_line-found.result names told.0) ids told.1 in
    let answers = c.answer_line-found.ensures.answers told.0 tells in
    let alone =
    subst (λ (m : Meaning). AnswersMeaning m c.self.inside.pool c.answer_line-found.new.pool told.0)
    (meaning_alone c.args.line c.self.inside.ids.ids c.requires.not_mine) answers in (
      told.0,
      subst (λ (k : Kept). AnswersMeaning (meaning_of c.args.line []) k c.answer_line-found.new.pool told.0) c.self.view_is alone,
      told.2,
      told.3,
    )

pub answer_line-found-requires : goal.answer_line-found-requires
answer_line-found-requires g c =
    let few = subst (λ (k : Kept). k.graph.levels.issued + 32766 ≤ 18446744073709551615) (sym c.self.view_is) c.requires.few in
    (lit< tt, (few, (c.self.invariant, none_mined c.args.line c.self.inside.ids.ids c.requires.not_mine)))

pub returns-clause-cause : goal.returns-clause-cause
returns-clause-cause g c = c.tell.ensures.2.cause

pub returns-clause-additions : goal.returns-clause-additions
returns-clause-additions g c =
    subst (λ (k : Kept). c.answer_line-found.new.pool.graph.levels.issued ≤ k.graph.levels.issued + 32766) c.self.view_is c.answer_line-found.ensures.additions

pub tell-requires-room-G-Obeys : goal.tell-requires-room-G-Obeys
tell-requires-room-G-Obeys g c = λ κs below. lit< tt
