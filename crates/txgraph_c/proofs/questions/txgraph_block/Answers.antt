use Rattle.std.proofs.Common.{◌≡◌, Some, sym, ap, ◌∙◌}
use Rattle.graph_model.specs.Commands.{Block}
use Rattle.desk.specs.Calls.{Answers, ShowsTotal}
use Rattle.txgraph_c.proofs.SlotLemmas.{of_slot}
use Rattle.txgraph_c.proofs.questions.txgraph_block.Goals as goal

pub returns : goal.returns
returns c =
    of_slot c.args.slot.now.handle.value c.put.new.slot.handle.value c.fill_block-code.result ((c.fill_block-code.new.kept ≡ c.args.kept.now) × (c.fill_block-code.new.total ≡ c.args.total.now)) (λ o n. Answers o n (Block c.args.size) c.fill_block-code.result c.fill_block-code.new.kept (ShowsTotal c.args.total.now c.fill_block-code.new.total))
    c.deref_mut.result.now c.fill_block-code.new.desk (c.in-Some.ensures.taken ∙ ap Some (sym c.deref_mut.ensures.value)) c.put.ensures c.fill_block-code.ensures.answers
