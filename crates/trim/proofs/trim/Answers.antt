-- The step of the machine, and what the solver takes.
use Rattle.std.proofs.Common.{List, ℕ, refl, sym, ◌∙◌, subst}
use Rattle.graphs.specs.declared.names.Level.TheVariants.{Top}
use Rattle.graph_model.specs.declared.names.Refusal.TheVariants.{Memory}
use Rattle.levels.specs.Lefts.{DropsWithin}
use Rattle.levels.specs.Levels.{level_at}
use Rattle.tx_graph.specs.Dropped.{DropsSet}
use Rattle.tx_graph.specs.Kept.{Leads}
use Rattle.trim.proofs.Standing.{trim_lacks, trim_step, when_ok, when_err}
use Rattle.trim.proofs.trim.Goals as goal

pub returns-in_default-clause-step : goal.returns-in_default-clause-step
returns-in_default-clause-step g c = trim_lacks c.args.graph.now c.args.graph.now refl

pub returns-then-is_err-clause-step : goal.returns-then-is_err-clause-step
returns-then-is_err-clause-step g c =
    trim_lacks c.args.graph.now c.drop_set.new.self (when_err c.drop_set.result Memory (sym c.is_err.ensures.value ∙ c.if-is_err.true) c.drop_set.ensures.err)

pub returns-then-is_err-clause-steps : goal.returns-then-is_err-clause-steps
returns-then-is_err-clause-steps g c ids drops =
    let old = c.args.graph.now in
    subst (λ (xs : List ℕ). DropsWithin old.levels.limits xs (level_at old.levels Top).graph c.args.steps.now c.drop_set.new.steps)
    (c.as_slice.ensures ∙ c.in-Ok.ensures.one ids drops) c.drop_set.ensures.steps

pub returns-clause-step : goal.returns-clause-step
returns-clause-step g c =
    trim_step c.args.graph.now c.drop_set.new.self c.in-Ok.picked c.in-Ok.ensures.dropped
    (subst (λ (ids : List ℕ). Leads c.args.graph.now c.drop_set.new.self (DropsSet ids)) c.as_slice.ensures
    (when_ok c.drop_set.result (sym c.is_err.ensures.value ∙ c.if-is_err.false) c.drop_set.ensures.drops))

pub returns-clause-steps : goal.returns-clause-steps
returns-clause-steps g c ids drops =
    let old = c.args.graph.now in
    subst (λ (xs : List ℕ). DropsWithin old.levels.limits xs (level_at old.levels Top).graph c.args.steps.now c.drop_set.new.steps)
    (c.as_slice.ensures ∙ c.in-Ok.ensures.one ids drops) c.drop_set.ensures.steps
