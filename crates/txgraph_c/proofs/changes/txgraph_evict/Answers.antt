use Rattle.std.proofs.Common.{◌≡◌, Some, sym, ap, ◌∙◌}
use Rattle.graph_model.specs.Commands.{Evict}
use Rattle.desk.specs.Calls.{Answers, ShowsTotal}
use Rattle.txgraph_c.proofs.SlotLemmas.{of_slot}
use Rattle.txgraph_c.proofs.changes.txgraph_evict.Goals as goal

pub returns-clause-answers : goal.returns-clause-answers
returns-clause-answers c =
    of_slot c.args.slot.now.handle.value c.put.new.slot.handle.value c.evict_last-code.result ((c.evict_last-code.new.kept ≡ c.args.kept.now) × (c.evict_last-code.new.total ≡ c.args.total.now)) (λ o n. Answers o n (Evict) c.evict_last-code.result c.evict_last-code.new.kept (ShowsTotal c.args.total.now c.evict_last-code.new.total))
    c.deref_mut.result.now c.evict_last-code.new.desk (c.in-Some.ensures.taken ∙ ap Some (sym c.deref_mut.ensures.value)) c.put.ensures c.evict_last-code.ensures.answers
