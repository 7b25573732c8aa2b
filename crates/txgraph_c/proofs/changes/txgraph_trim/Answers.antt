use Rattle.std.proofs.Common.{◌≡◌, Some, sym, ap, ◌∙◌}
use Rattle.graph_model.specs.Commands.{Trim}
use Rattle.desk.specs.Calls.{Answers, ShowsTotal}
use Rattle.txgraph_c.proofs.SlotLemmas.{of_slot}
use Rattle.txgraph_c.proofs.changes.txgraph_trim.Goals as goal

pub returns-clause-answers : goal.returns-clause-answers
returns-clause-answers c =
    of_slot c.args.slot.now.handle.value c.put.new.slot.handle.value c.trim_top-code.result ((c.trim_top-code.new.kept ≡ c.args.kept.now) × (c.trim_top-code.new.total ≡ c.args.total.now)) (λ o n. Answers o n (Trim) c.trim_top-code.result c.trim_top-code.new.kept (ShowsTotal c.args.total.now c.trim_top-code.new.total))
    c.deref_mut.result.now c.trim_top-code.new.desk (c.in-Some.ensures.taken ∙ ap Some (sym c.deref_mut.ensures.value)) c.put.ensures c.trim_top-code.ensures.answers
