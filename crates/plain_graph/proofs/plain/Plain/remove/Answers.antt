use Rattle.std.proofs.Common.{refl, ap, ◌∙◌, ◌↔◌}
use Rattle.std.specs.Prelude.{Contains, IsTrue}
use Rattle.lists.specs.Distinct.{AreDistinct}
use Rattle.graph_model.specs.Commands.{Remove}
use Rattle.plain_graph.specs.Plain.{Kept}
use Rattle.plain_graph.specs.Sound.{names_of}
use Rattle.plain_graph.specs.Rests.{without_name, ArePairsWithout}
use Rattle.plain_graph.proofs.Entries.{so, not_so}
use Rattle.plain_graph.proofs.Standing.{itself, steps_refused, steps_without_memory}
use Rattle.plain_graph.proofs.Removals.{remove_unknown, remove_unrefused, steps_removed, sound_removed}
use Rattle.plain_graph.proofs.plain.Plain.remove.Goals as goal

pub returns-then-not-is_live-clause-step : goal.returns-then-not-is_live-clause-step
returns-then-not-is_live-clause-step c =
    let named : IsTrue c.is_live.result ↔ Contains (names_of c.args.self.now.txs) c.args.id =
    rw (← c.self.view_is) (rw c.deref.ensures.value at c.is_live.ensures.named) in
    steps_refused c.args.self.now c.args.self.now (Remove c.args.id) _ (itself c.args.self.now)
    (remove_unknown c.args.self.now c.args.id (not_so c.is_live.result named c.if-not-is_live.true))

pub returns-in_default-clause-step : goal.returns-in_default-clause-step
returns-in_default-clause-step c =
    let named : IsTrue c.is_live.result ↔ Contains (names_of c.args.self.now.txs) c.args.id =
    rw (← c.self.view_is) (rw c.deref.ensures.value at c.is_live.ensures.named) in
    steps_without_memory c.args.self.now c.args.self.now (Remove c.args.id) (itself c.args.self.now) tt
    (remove_unrefused c.args.self.now c.args.id (so c.is_live.result named c.if-not-is_live.false))

pub is_over-self-inside-requires : goal.is_over-self-inside-requires
is_over-self-inside-requires c =
    let pairs : ArePairsWithout c.self.inside.pairs.items c.args.id c.in-Ok.pairs.items = rw (← c.deref-2.ensures.value) c.in-Ok.ensures in
    let sound = sound_removed c.self.inside.limits c.self.inside.txs.items c.self.inside.pairs.items c.in-Ok.pairs.items _ c.args.id c.self.invariant.sound pairs in
    rw (c.deref-3.ensures.value, c.deref-4.ensures.value, c.drop_name.ensures) sound

pub invariant_of-self : goal.invariant_of-self
invariant_of-self c = rw (c.deref-3.ensures.value, c.deref-4.ensures.value) at c.is_over-self-inside.ensures

pub returns-clause-step : goal.returns-clause-step
returns-clause-step c =
    let named : IsTrue c.is_live.result ↔ Contains (names_of c.args.self.now.txs) c.args.id =
    rw (← c.self.view_is) (rw c.deref.ensures.value at c.is_live.ensures.named) in
    let pairs : ArePairsWithout c.args.self.now.pairs c.args.id c.in-Ok.pairs.items = rw (← c.self.view_is) (rw (← c.deref-2.ensures.value) c.in-Ok.ensures) in
    let once : AreDistinct (names_of c.args.self.now.txs) = rw (← c.self.view_is) c.self.invariant.sound.names_once in
    steps_removed c.args.self.now _ c.args.id (ap (λ (kept : Kept). kept.limits) c.self.view_is) refl (c.drop_name.ensures
    ∙ ap (λ (kept : Kept). without_name c.args.id kept.txs) c.self.view_is) pairs once (so c.is_live.result named c.if-not-is_live.false)
