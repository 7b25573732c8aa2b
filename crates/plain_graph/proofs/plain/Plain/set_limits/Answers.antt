use Rattle.std.proofs.Common.{refl, ap}
use Rattle.graph_model.specs.Limits.{bounds_of}
use Rattle.graph_model.specs.Commands.{SetLimits}
use Rattle.plain_graph.specs.Plain.{Kept}
use Rattle.plain_graph.proofs.Standing.{itself, steps_refused, steps_limited, sound_limited}
use Rattle.plain_graph.proofs.plain.Plain.set_limits.Goals as goal

pub returns-in-Some-clause-step : goal.returns-in-Some-clause-step
returns-in-Some-clause-step c = steps_refused c.args.self.now c.args.self.now
    (SetLimits (bounds_of c.args.limits)) c.in-Some.why (itself c.args.self.now) c.in-Some.ensures.first

pub returns-clause-step : goal.returns-clause-step
returns-clause-step c = steps_limited c.args.self.now _ c.args.limits refl refl (ap (λ (kept : Kept). kept.txs) c.self.view_is)
    (ap (λ (kept : Kept). kept.pairs) c.self.view_is) c.in_default.ensures.first

pub is_over-self-inside-requires : goal.is_over-self-inside-requires
is_over-self-inside-requires c =
    let sound = sound_limited c.self.inside.limits c.args.limits c.self.inside.txs.items c.self.inside.pairs.items _ c.self.invariant.sound
    (c.in_default.ensures.in_range refl) in
    rw (c.deref.ensures.value, c.deref-2.ensures.value) sound

pub invariant_of-self : goal.invariant_of-self
invariant_of-self c = rw (c.deref.ensures.value, c.deref-2.ensures.value) at c.is_over-self-inside.ensures
