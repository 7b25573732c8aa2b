use Rattle.std.proofs.Common.{◌≡◌, Some, sym, ap, ◌∙◌}
use Rattle.graph_model.specs.Commands.{Settle}
use Rattle.desk.specs.Calls.{Answers, ShowsVerdict}
use Rattle.txgraph_c.proofs.SlotLemmas.{of_slot}
use Rattle.txgraph_c.proofs.changes.txgraph_settle.Goals as goal

pub returns : goal.returns
returns c =
    of_slot c.args.slot.now.handle.value c.put.new.slot.handle.value c.make_settlement-code.result ((c.make_settlement-code.new.kept ≡ c.args.kept.now) × (c.make_settlement-code.new.verdict ≡ c.args.verdict.now)) (λ o n. Answers o n (Settle) c.make_settlement-code.result c.make_settlement-code.new.kept (ShowsVerdict c.args.verdict.now c.make_settlement-code.new.verdict))
    c.deref_mut.result.now c.make_settlement-code.new.desk (c.in-Some.ensures.taken ∙ ap Some (sym c.deref_mut.ensures.value)) c.put.ensures c.make_settlement-code.ensures
