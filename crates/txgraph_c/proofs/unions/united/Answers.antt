use Rattle.std.proofs.Common.{◌≡◌, Some, sym, ap, ◌∙◌}
use Rattle.desk.specs.Unions.{Unites}
use Rattle.txgraph_c.proofs.SlotLemmas.{of_slot}
use Rattle.txgraph_c.proofs.unions.united.Goals as goal

pub returns : goal.returns
returns c =
    of_slot c.args.slot.now.handle.value c.put.new.slot.handle.value c.tell_kin-code.result ((c.tell_kin-code.new.ids ≡ c.args.ids.now) × (c.tell_kin-code.new.count ≡ c.args.count.now))
    (λ o n. Unites o n c.args.kin c.args.level c.args.names.now c.tell_kin-code.result c.args.ids.now c.tell_kin-code.new.ids c.args.count.now c.tell_kin-code.new.count)
    c.deref_mut.result.now c.tell_kin-code.new.desk (c.in-Some.ensures.taken ∙ ap Some (sym c.deref_mut.ensures.value)) c.put.ensures c.tell_kin-code.ensures
