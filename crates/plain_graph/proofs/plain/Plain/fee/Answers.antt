use Rattle.std.proofs.Common.{◌≡◌, map, refl, ap, ◌∙◌, to_z-of_z}
use Rattle.graph_model.specs.Commands.{SetFee}
use Rattle.plain_graph.specs.Plain.{Kept}
use Rattle.plain_graph.specs.Rests.{paying}
use Rattle.plain_graph.proofs.Standing.{itself, steps_refused}
use Rattle.plain_graph.proofs.Fees.{at_new_fee, steps_paid, right_paid}
use Rattle.plain_graph.proofs.plain.Plain.fee.Goals as goal

pub returns-in-Some-clause-step : goal.returns-in-Some-clause-step
returns-in-Some-clause-step c = steps_refused c.args.self.now c.args.self.now (SetFee c.args.id c.args.fee) c.in-Some.why
    (itself c.args.self.now) (at_new_fee c.args.self.now c.args.id _ c.args.fee _ (to_z-of_z c.ranges.fee) c.in-Some.ensures.first)

pub invariant_of-self : goal.invariant_of-self
invariant_of-self c = rw c.set_fee.ensures (right_paid c.self.inside.limits c.self.inside.txs.items c.self.inside.pairs.items _ _ _ _ c.self.invariant)

pub returns-clause-step : goal.returns-clause-step
returns-clause-step c =
    let paid : c.set_fee.new.txs.items ≡ map (paying c.args.id c.args.fee) c.self.inside.txs.items = rw (to_z-of_z c.ranges.fee) at c.set_fee.ensures in
    steps_paid c.args.self.now _ c.args.id c.args.fee (ap (λ (kept : Kept). kept.limits) c.self.view_is) refl
    (paid ∙ ap (λ (kept : Kept). map (paying c.args.id c.args.fee) kept.txs) c.self.view_is)
    (ap (λ (kept : Kept). kept.pairs) c.self.view_is) (c.in_default.ensures.live refl)
    (at_new_fee c.args.self.now c.args.id _ c.args.fee _ (to_z-of_z c.ranges.fee) c.in_default.ensures.first)
