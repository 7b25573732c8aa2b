use Rattle.std.proofs.Common.{◌≡◌, Some, refl, sym, ap, ◌∙◌}
use Rattle.graph_model.specs.Commands.{Chunk}
use Rattle.desk.specs.Calls.{Tells, ShowsPart}
use Rattle.txgraph_c.proofs.SlotLemmas.{of_slot}
use Rattle.txgraph_c.proofs.questions.txgraph_chunk.Goals as goal

pub returns : goal.returns
returns c =
    let desk = c.deref.result.now in
    of_slot c.args.slot.now.handle.value c.put.new.slot.handle.value c.tell_chunk-code.result ((c.tell_chunk-code.new.kept ≡ c.args.kept.now) × (c.tell_chunk-code.new.rate ≡ c.args.rate.now) × (c.tell_chunk-code.new.ids ≡ c.args.ids.now) × (c.tell_chunk-code.new.count ≡ c.args.count.now))
    (λ o n. Tells o n (Chunk c.args.id) c.tell_chunk-code.result c.tell_chunk-code.new.kept (ShowsPart c.args.rate.now c.tell_chunk-code.new.rate c.args.ids.now c.tell_chunk-code.new.ids c.args.count.now c.tell_chunk-code.new.count)) desk desk
    (c.in-Some.ensures.taken ∙ ap Some (sym c.deref.ensures)) (c.put.ensures ∙ ap Some (sym c.deref.ensures)) (record { answers = c.tell_chunk-code.ensures; same = refl })
