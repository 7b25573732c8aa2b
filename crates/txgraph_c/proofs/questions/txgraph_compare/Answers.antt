use Rattle.std.proofs.Common.{◌≡◌, Some, refl, sym, ap, ◌∙◌}
use Rattle.graph_model.specs.Commands.{Compare}
use Rattle.desk.specs.Calls.{Tells, ShowsVerdict}
use Rattle.txgraph_c.proofs.SlotLemmas.{of_slot}
use Rattle.txgraph_c.proofs.questions.txgraph_compare.Goals as goal

pub returns : goal.returns
returns c =
    let desk = c.deref.result.now in
    of_slot c.args.slot.now.handle.value c.put.new.slot.handle.value c.tell_verdict-code.result ((c.tell_verdict-code.new.kept ≡ c.args.kept.now) × (c.tell_verdict-code.new.verdict ≡ c.args.verdict.now))
    (λ o n. Tells o n (Compare) c.tell_verdict-code.result c.tell_verdict-code.new.kept (ShowsVerdict c.args.verdict.now c.tell_verdict-code.new.verdict)) desk desk
    (c.in-Some.ensures.taken ∙ ap Some (sym c.deref.ensures)) (c.put.ensures ∙ ap Some (sym c.deref.ensures)) (record { answers = c.tell_verdict-code.ensures; same = refl })
