use Rattle.std.proofs.Common.{◌≡◌, Some, refl, sym, ap, ◌∙◌}
use Rattle.graph_model.specs.Commands.{Before}
use Rattle.desk.specs.Calls.{Tells, ShowsPlace}
use Rattle.txgraph_c.proofs.SlotLemmas.{of_slot}
use Rattle.txgraph_c.proofs.questions.txgraph_before.Goals as goal

pub returns : goal.returns
returns c =
    let desk = c.deref.result.now in
    of_slot c.args.slot.now.handle.value c.put.new.slot.handle.value c.tell_place-code.result ((c.tell_place-code.new.kept ≡ c.args.kept.now) × (c.tell_place-code.new.place ≡ c.args.place.now))
    (λ o n. Tells o n (Before c.args.a c.args.b) c.tell_place-code.result c.tell_place-code.new.kept (ShowsPlace c.args.place.now c.tell_place-code.new.place)) desk desk
    (c.in-Some.ensures.taken ∙ ap Some (sym c.deref.ensures)) (c.put.ensures ∙ ap Some (sym c.deref.ensures)) (record { answers = c.tell_place-code.ensures; same = refl })
