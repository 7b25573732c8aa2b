use Rattle.std.proofs.Common.{◌≡◌, Some, refl, sym, ap, ◌∙◌, subst}
use Rattle.graph_model.specs.Commands.{Count}
use Rattle.graph_model.specs.Replies.{Number}
use Rattle.graphs.specs.declared.names.Level.{Level}
use Rattle.reorg.specs.Kept.{MakesStep}
use Rattle.desk.specs.Numbers.{level_named}
use Rattle.desk.specs.Calls.{Knows}
use Rattle.txgraph_c.proofs.SlotLemmas.{of_slot}
use Rattle.txgraph_c.proofs.questions.txgraph_count.Goals as goal

pub returns : goal.returns
returns c =
    let desk = c.deref.result.now in
    of_slot c.args.slot.now.handle.value c.put.new.slot.handle.value 0 (c.tell_count-found.result ≡ c.args.count.now)
    (λ o n. Knows o n 0 (MakesStep o.pool o.pool (Count (level_named c.args.level)) (Number c.tell_count-found.result))) desk desk
    (c.in-Some.ensures.taken ∙ ap Some (sym c.deref.ensures)) (c.put.ensures ∙ ap Some (sym c.deref.ensures)) (record {
      same = refl;
      code_is = refl;
      fact = subst (λ (l : Level). MakesStep desk.pool desk.pool (Count l) (Number c.tell_count-found.result)) c.named_level.ensures c.tell_count-found.ensures;
    })
