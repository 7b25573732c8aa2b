-- One entry more is past.
use Rattle.std.proofs.Common.{List, ◌∷◌, [], ◌++◌, sym, ap, ◌∙◌, subst, append_assoc}
use Rattle.std.proofs.lemmas.List.{append-nil}
use Rattle.chunk_index.specs.declared.entry.Entry.{Entry}
use Rattle.cluster_store.specs.Slots.{MovesFirsts}
use Rattle.cluster_store.proofs.Settled.{firsts_begin, firsts_next, firsts_passed}
use Rattle.cluster_store.proofs.settling.move_firsts.Goals as goal

pub loop-entry-init : goal.loop-entry-init
loop-entry-init g c = record { split = c.into_iter-entry-iterator.ensures.into_iter_gives; moved = firsts_begin c.args.to c.args.slots.now.slots }

pub loop-entry-preserved-then-entry-eq0 : goal.loop-entry-preserved-then-entry-eq0
loop-entry-preserved-then-entry-eq0 g c = record {
  split =
      append_assoc c.loop-entry.yielded (c.in-Some.entry ∷ []) c.next.new.self
      ∙ ap (λ (es : List Entry). c.loop-entry.yielded ++ es) (sym c.in-Some.ensures.steps) ∙ c.loop-entry.invariant.split;
  moved = firsts_next c.args.to c.loop-entry.yielded c.in-Some.entry c.args.slots.now.slots c.loop-entry.slots.slots c.move_slot.new.slots.slots
      c.loop-entry.invariant.moved c.if-entry-eq0.true c.move_slot.ensures;
}

pub loop-entry-preserved : goal.loop-entry-preserved
loop-entry-preserved g c = record {
  split =
      append_assoc c.loop-entry.yielded (c.in-Some.entry ∷ []) c.next.new.self
      ∙ ap (λ (es : List Entry). c.loop-entry.yielded ++ es) (sym c.in-Some.ensures.steps) ∙ c.loop-entry.invariant.split;
  moved = firsts_passed c.args.to c.loop-entry.yielded c.in-Some.entry c.args.slots.now.slots c.loop-entry.slots.slots c.loop-entry.invariant.moved
      c.if-entry-eq0.false;
}

pub returns : goal.returns
returns g c =
    subst (λ (es : List Entry). MovesFirsts c.args.to es c.args.slots.now.slots c.loop-entry.slots.slots)
    (sym (append-nil c.loop-entry.yielded) ∙ ap (λ (es : List Entry). c.loop-entry.yielded ++ es) (sym c.in-None.ensures.steps.0)
    ∙ c.loop-entry.invariant.split)
    c.loop-entry.invariant.moved
