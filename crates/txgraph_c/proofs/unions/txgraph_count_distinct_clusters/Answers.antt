use Rattle.std.proofs.Common.{◌≡◌, Some, refl, sym, ap, ◌∙◌, subst}
use Rattle.graphs.specs.declared.names.Level.{Level}
use Rattle.desk.specs.Numbers.{level_named}
use Rattle.desk.specs.Unions.{CountsClusters}
use Rattle.txgraph_c.proofs.SlotLemmas.{of_slot}
use Rattle.txgraph_c.proofs.unions.txgraph_count_distinct_clusters.Goals as goal

pub returns : goal.returns
returns c =
    let desk = c.deref.result.now in
    of_slot c.args.slot.now.handle.value c.put.new.slot.handle.value c.tell_clusters-code.result (c.tell_clusters-code.new.count ≡ c.args.count.now)
    (λ o n. (n ≡ o) × CountsClusters o (level_named c.args.level) c.args.ids.now c.tell_clusters-code.result c.args.count.now c.tell_clusters-code.new.count) desk desk
    (c.in-Some.ensures.taken ∙ ap Some (sym c.deref.ensures)) (c.put.ensures ∙ ap Some (sym c.deref.ensures)) (
      refl,
      subst (λ (l : Level). CountsClusters desk l c.args.ids.now c.tell_clusters-code.result c.args.count.now c.tell_clusters-code.new.count) c.named_level.ensures c.tell_clusters-code.ensures,
    )
