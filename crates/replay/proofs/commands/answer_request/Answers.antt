-- The calls whose answers no search finds. That the graph fits in memory is asked of the caller too.
use Rattle.std.proofs.Common.{ℕ, List, subst, lit<}
use Rattle.std.proofs.lemmas.Result.{err_from_is_err_and}
use Rattle.graph_model.specs.Commands.{Mine}
use Rattle.graph_model.specs.Replies.{Done, Refused}
use Rattle.reorg.specs.Kept.{MakesStep}
use Rattle.replay.proofs.RefusedLemmas.{refused_told}
use Rattle.replay.proofs.commands.answer_request.Goals as goal

pub count-requires : goal.count-requires
count-requires g c = lit< tt

pub returns-in_ok-mine-in-Mine-clause-answers : goal.returns-in_ok-mine-in-Mine-clause-answers
returns-in_ok-mine-in-Mine-clause-answers g c answer told =
    rw c.in-Mine.is (Done, subst (λ (ids : List ℕ). MakesStep c.args.pool.now c.mine.new.self (Mine ids) Done) c.ids.ensures c.in_ok-mine-in-Mine.ensures.step, told)

pub returns-in_err-mine-in-Mine-clause-answers : goal.returns-in_err-mine-in-Mine-clause-answers
returns-in_err-mine-in-Mine-clause-answers g c answer told =
    let why = c.in_err-mine-in-Mine.field-0.0 in
    let (told_why, is_told, is_why) = err_from_is_err_and c.from_residual-in_err-mine-in-Mine.result c.from_residual-in_err-mine-in-Mine.ensures.1 in
    let result = c.from_residual-in_err-mine-in-Mine.result in
    let steps = subst (λ (ids : List ℕ). MakesStep c.args.pool.now c.mine.new.self (Mine ids) (Refused why)) c.ids.ensures c.in_err-mine-in-Mine.ensures.step in
    rw c.in-Mine.is (Refused why, steps, refused_told c.mine.new.self result c.args.ids.now.ids answer why told_why is_told is_why told)
