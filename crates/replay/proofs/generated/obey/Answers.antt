use Rattle.std.proofs.Common.{subst, ap, ◌∙◌, arith}
use Rattle.graph_model.specs.Lines.{Meaning}
use Rattle.replay.specs.Answers.{AnswersMeaning, outcome_of}
use Rattle.replay.proofs.generated.obey.Goals as goal

pub returns-clause-step : goal.returns-clause-step
returns-clause-step c command means =
    let told = c.line.ensures.line in
    let step = subst (λ (m : Meaning). AnswersMeaning m c.args.session.now c.line.new.self told.0) means told.1 in
    let outcome = rw c.in-Ok.is at told.3 in
    (step.0, step.1, outcome ∙ ap outcome_of step.2)

pub returns-clause-additions : goal.returns-clause-additions
returns-clause-additions c = c.line.ensures.additions

pub unreachable-requires : goal.unreachable-requires
unreachable-requires c = let failed = rw c.in-Err.is at c.line.ensures.cause.failed in absurd (omega (arith, failed))
