use Rattle.std.proofs.Common.{◌≡◌, Some, sym, ap, ◌∙◌}
use Rattle.desk.specs.Finds.{ShowsIds}
use Rattle.desk.specs.Requests.{search_command}
use Rattle.desk.specs.Calls.{Tells}
use Rattle.txgraph_c.proofs.SlotLemmas.{of_slot}
use Rattle.txgraph_c.proofs.questions.searched.Goals as goal

pub returns : goal.returns
returns c =
    of_slot c.args.slot.now.handle.value c.put.new.slot.handle.value c.tell_found-code.result ((c.tell_found-code.new.kept ≡ c.args.kept.now) × (c.tell_found-code.new.ids ≡ c.args.ids.now) × (c.tell_found-code.new.count ≡ c.args.count.now)) (λ o n. Tells o n (search_command c.args.search) c.tell_found-code.result c.tell_found-code.new.kept (ShowsIds c.args.ids.now c.tell_found-code.new.ids c.args.count.now c.tell_found-code.new.count))
    c.deref_mut.result.now c.tell_found-code.new.desk (c.in-Some.ensures.taken ∙ ap Some (sym c.deref_mut.ensures.value)) c.put.ensures c.tell_found-code.ensures
