use Rattle.std.proofs.Common.{◌≡◌, ◌+◌, ◌∙◌, ◌++◌, ◌∷◌, [], refl, to_z-of_z, rules, ap, ◌≤◌, length, None}
use Rattle.graph_model.specs.Commands.{Add}
use Rattle.plain_graph.specs.declared.tx.Tx.{Tx}
use Rattle.plain_graph.specs.Plain.{Kept, entry_in}
use Rattle.plain_graph.proofs.Standing.{at_fee, same_as, itself, steps_refused, steps_without_memory, steps_added, sound_added, right_with_room}
use Rattle.plain_graph.proofs.plain.Plain.add.Goals as goal

pub returns-in-Some-clause-step : goal.returns-in-Some-clause-step
returns-in-Some-clause-step c = steps_refused c.args.self.now c.args.self.now (Add c.args.id c.args.fee c.args.size) c.in-Some.why
    (itself c.args.self.now) (at_fee c.args.self.now c.args.id _ c.args.fee c.args.size _ (to_z-of_z c.ranges.fee) c.in-Some.ensures.first)

pub returns-then-is_err-clause-step : goal.returns-then-is_err-clause-step
returns-then-is_err-clause-step c =
    steps_without_memory c.args.self.now _ (Add c.args.id c.args.fee c.args.size)
    (same_as _ c.args.self.now _ c.self.view_is (record { limits = refl; begun = refl; txs = refl; pairs = refl })) tt
    (at_fee c.args.self.now c.args.id _ c.args.fee c.args.size _ (to_z-of_z c.ranges.fee) c.in_default.ensures.first)

pub invariant_of-self-then-is_err-2 : goal.invariant_of-self-then-is_err-2
invariant_of-self-then-is_err-2 c =
    let same : c.push.new.self.items ≡ c.self.inside.txs.items = search rules in
    rw same (right_with_room _ _ _ _ _ _ c.self.invariant c.make_room.ensures.kept)

pub returns-then-is_err-2-clause-step : goal.returns-then-is_err-2-clause-step
returns-then-is_err-2-clause-step c =
    let same : c.push.new.self.items ≡ c.self.inside.txs.items = search rules in
    steps_without_memory c.args.self.now _ (Add c.args.id c.args.fee c.args.size)
    (same_as _ c.args.self.now _ c.self.view_is (record { limits = refl; begun = refl; txs = same; pairs = refl })) tt
    (at_fee c.args.self.now c.args.id _ c.args.fee c.args.size _ (to_z-of_z c.ranges.fee) c.in_default.ensures.first)

pub is_over-self-inside-requires : goal.is_over-self-inside-requires
is_over-self-inside-requires c =
    let pushed : c.push.new.self.items ≡ c.self.inside.txs.items ++ record { id = c.args.id; fee = c.args.fee; size = c.args.size } ∷ [] = search rules in
    let room : length c.self.inside.txs.items + 1 ≤ length c.make_room.new.found.ids + c.make_room.new.found.room = search rules in
    let none : entry_in c.self.inside.txs.items c.args.id ≡ None = rw (ap (λ (kept : Kept). kept.txs) c.self.view_is) (c.in_default.ensures.new_name refl) in
    let sound = sound_added _ _ (record { id = c.args.id; fee = c.args.fee; size = c.args.size }) _ _ _ c.self.invariant.sound none (c.in_default.ensures.small refl) room in
    rw (c.deref.ensures.value, c.deref-2.ensures.value, pushed) sound

pub invariant_of-self-2 : goal.invariant_of-self-2
invariant_of-self-2 c = rw (c.deref.ensures.value, c.deref-2.ensures.value) at c.is_over-self-inside.ensures

pub returns-clause-step : goal.returns-clause-step
returns-clause-step c =
    let tx : Tx = record { id = c.args.id; fee = c.args.fee; size = c.args.size } in
    let pushed : c.push.new.self.items ≡ c.self.inside.txs.items ++ record { id = c.args.id; fee = c.args.fee; size = c.args.size } ∷ [] = search rules in
    steps_added c.args.self.now _ tx (ap (λ (kept : Kept). kept.limits) c.self.view_is) refl
    (pushed ∙ ap (λ (kept : Kept). kept.txs ++ tx ∷ []) c.self.view_is) (ap (λ (kept : Kept). kept.pairs) c.self.view_is) (c.in_default.ensures.new_name refl) (search rules)
    (at_fee c.args.self.now c.args.id _ c.args.fee c.args.size _ (to_z-of_z c.ranges.fee) c.in_default.ensures.first)
