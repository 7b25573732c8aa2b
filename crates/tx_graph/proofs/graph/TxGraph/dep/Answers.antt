use Rattle.std.proofs.Common.{◌*◌, true, sym, ◌∙◌, subst, ◌≡◌, ◌≢◌, ap, IfErr}
use Rattle.graph_model.specs.declared.names.Refusal.TheVariants.{Memory}
use Rattle.graph_model.specs.Commands.{Dep}
use Rattle.graph_model.specs.Replies.{Done, Refused, change_reply}
use Rattle.tx_graph.specs.Kept.{MakesStep}
use Rattle.tx_graph.proofs.Calls.{kept_of, same_levels, from_view, sound_after, error_is, dep_refused, dep_step, GrowsForPair}
use Rattle.tx_graph.proofs.Rooms.{levels_fit}
use Rattle.tx_graph.specs.Kept.{Kept}
use Rattle.levels.specs.Stays.{AllStay}
use Rattle.tx_graph.proofs.Unchanged.{issued_topped}
use Rattle.graphs.specs.Closures.{is_ancestor}
use Rattle.graphs.specs.declared.names.Level.TheVariants.{Top}
use Rattle.levels.specs.Levels.{Levels, level_at}
use Rattle.tx_graph.proofs.graph.TxGraph.dep.Goals as goal

pub returns-in_err-dep-clause-step : goal.returns-in_err-dep-clause-step
returns-in_err-dep-clause-step g c =
    let why = c.in_err-dep.field-0.0 in
    subst (λ r. MakesStep c.args.self.now (kept_of (64 * g.row.W) c.self.inside.begun c.dep.new.self)
    (Dep c.args.parent c.args.child) (change_reply r))
    (sym (error_is c.from_residual.result why c.from_residual.ensures.1))
    (same_levels (64 * g.row.W) c.self.inside.begun c.self.inside.levels c.dep.new.self c.args.self.now
    (Dep c.args.parent c.args.child) (Refused why)
    c.in_err-dep.ensures.same.0.0 c.self.view_is
    (dep_refused
    (kept_of (64 * g.row.W) c.self.inside.begun c.self.inside.levels) c.args.parent c.args.child why c.in_err-dep.ensures.row))

pub returns-in_err-dep-clause-steps : goal.returns-in_err-dep-clause-steps
returns-in_err-dep-clause-steps g c =
    subst (GrowsForPair c.args.parent c.args.child c.args.steps.now c.dep.new.steps) c.self.view_is c.dep.ensures.steps

pub invariant_of-self-2 : goal.invariant_of-self-2
invariant_of-self-2 g c =
    sound_after (kept_of (64 * g.row.W) c.self.inside.begun c.self.inside.levels)
    (kept_of (64 * g.row.W) true c.dep.new.self)
    (Dep c.args.parent c.args.child) Done c.self.invariant c.dep.ensures.kept.0
    (dep_step (64 * g.row.W) c.self.inside.begun c.self.inside.levels c.dep.new.self c.dep.ensures.kept.0 c.self.invariant
    c.args.parent c.args.child c.in_ok-dep.ensures.row c.in_ok-dep.ensures.linked (λ there. (c.dep.ensures.same.1 there).0))

pub returns-clause-step : goal.returns-clause-step
returns-clause-step g c =
    from_view (kept_of (64 * g.row.W) c.self.inside.begun c.self.inside.levels) c.args.self.now
    (kept_of (64 * g.row.W) true c.dep.new.self)
    (Dep c.args.parent c.args.child) Done c.self.view_is
    (dep_step (64 * g.row.W) c.self.inside.begun c.self.inside.levels c.dep.new.self c.dep.ensures.kept.0 c.self.invariant
    c.args.parent c.args.child c.in_ok-dep.ensures.row c.in_ok-dep.ensures.linked (λ there. (c.dep.ensures.same.1 there).0))

pub returns-clause-steps : goal.returns-clause-steps
returns-clause-steps g c =
    subst (GrowsForPair c.args.parent c.args.child c.args.steps.now c.dep.new.steps) c.self.view_is c.dep.ensures.steps

pub returns-in_err-dep-clause-additions : goal.returns-in_err-dep-clause-additions
returns-in_err-dep-clause-additions g c = ap (λ (l : Levels). l.issued) c.in_err-dep.ensures.same.0.0 ∙ ap (λ (k : Kept). k.levels.issued) c.self.view_is

pub dep-requires : goal.dep-requires
dep-requires g c = levels_fit g.row.W assumption

pub returns-in_err-dep-clause-stays : goal.returns-in_err-dep-clause-stays
returns-in_err-dep-clause-stays g c = subst (λ (k : Kept). AllStay k.levels c.dep.new.self) c.self.view_is c.dep.ensures.kept.1

pub returns-in_err-dep-clause-nothing : goal.returns-in_err-dep-clause-nothing
returns-in_err-dep-clause-nothing g c =
    subst (λ (k : Kept). is_ancestor (level_at k.levels Top).graph c.args.parent c.args.child ≡ true → c.dep.new.steps ≡ c.args.steps.now) c.self.view_is
    (λ there. (c.dep.ensures.same.1 there).1)

pub returns-clause-stays : goal.returns-clause-stays
returns-clause-stays g c = subst (λ (k : Kept). AllStay k.levels c.dep.new.self) c.self.view_is c.dep.ensures.kept.1

pub returns-clause-additions : goal.returns-clause-additions
returns-clause-additions g c =
    let change = c.in_ok-dep.ensures.linked in
    issued_topped c.self.inside.levels c.dep.new.self change.0 change.2 ∙ ap (λ (k : Kept). k.levels.issued) c.self.view_is

pub returns-in_err-dep-clause-refused : goal.returns-in_err-dep-clause-refused
returns-in_err-dep-clause-refused g c =
    subst (λ r. IfErr r (λ why. why ≢ Memory → c.dep.new.steps ≡ c.args.steps.now))
    (sym (error_is c.from_residual.result c.in_err-dep.field-0.0 c.from_residual.ensures.1)) c.in_err-dep.ensures.same.0.1

pub returns-clause-refused : goal.returns-clause-refused
returns-clause-refused g c = tt

pub returns-clause-nothing : goal.returns-clause-nothing
returns-clause-nothing g c =
    subst (λ (k : Kept). is_ancestor (level_at k.levels Top).graph c.args.parent c.args.child ≡ true → c.dep.new.steps ≡ c.args.steps.now) c.self.view_is
    (λ there. (c.dep.ensures.same.1 there).1)
