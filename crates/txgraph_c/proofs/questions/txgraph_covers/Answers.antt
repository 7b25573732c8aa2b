use Rattle.std.proofs.Common.{◌≡◌, Some, refl, sym, ap, subst, ◌∙◌}
use Rattle.graphs.specs.declared.names.Level.{Level}
use Rattle.desk.specs.Orders.{TellsCovers}
use Rattle.txgraph_c.specs.Slots.{OfSlot}
use Rattle.txgraph_c.proofs.SlotLemmas.{of_slot}
use Rattle.txgraph_c.proofs.questions.txgraph_covers.Goals as goal

pub returns : goal.returns
returns c =
    let desk = c.deref.result.now in
    let code = c.tell_covers-code in
    subst (λ (l : Level). OfSlot c.args.slot.now.handle.value c.put.new.slot.handle.value code.result
    ((code.new.kept ≡ c.args.kept.now) × (code.new.ids ≡ c.args.ids.now) × (code.new.count ≡ c.args.count.now))
    (λ o n. (n ≡ o) × TellsCovers o l c.args.id code.result code.new.kept c.args.ids.now code.new.ids c.args.count.now code.new.count)) c.named_level.ensures
    (of_slot c.args.slot.now.handle.value c.put.new.slot.handle.value code.result
    ((code.new.kept ≡ c.args.kept.now) × (code.new.ids ≡ c.args.ids.now) × (code.new.count ≡ c.args.count.now))
    (λ o n. (n ≡ o) × TellsCovers o c.named_level.result c.args.id code.result code.new.kept c.args.ids.now code.new.ids c.args.count.now code.new.count) desk desk
    (c.in-Some.ensures.taken ∙ ap Some (sym c.deref.ensures)) (c.put.ensures ∙ ap Some (sym c.deref.ensures)) (refl, code.ensures))
