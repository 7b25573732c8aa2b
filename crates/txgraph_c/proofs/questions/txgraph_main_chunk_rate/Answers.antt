use Rattle.std.proofs.Common.{◌≡◌, Some, refl, sym, ap, ◌∙◌}
use Rattle.graph_model.specs.Commands.{Chunk}
use Rattle.desk.specs.Calls.{Tells}
use Rattle.desk.specs.Facts.{ShowsRate}
use Rattle.txgraph_c.proofs.SlotLemmas.{of_slot}
use Rattle.txgraph_c.proofs.questions.txgraph_main_chunk_rate.Goals as goal

pub returns : goal.returns
returns c =
    let desk = c.deref.result.now in
    of_slot c.args.slot.now.handle.value c.put.new.slot.handle.value c.tell_chunk_rate-code.result ((c.tell_chunk_rate-code.new.kept ≡ c.args.kept.now) × (c.tell_chunk_rate-code.new.rate ≡ c.args.rate.now))
    (λ o n. Tells o n (Chunk c.args.id) c.tell_chunk_rate-code.result c.tell_chunk_rate-code.new.kept (ShowsRate c.args.rate.now c.tell_chunk_rate-code.new.rate)) desk desk
    (c.in-Some.ensures.taken ∙ ap Some (sym c.deref.ensures)) (c.put.ensures ∙ ap Some (sym c.deref.ensures)) (record { answers = c.tell_chunk_rate-code.ensures; same = refl })
