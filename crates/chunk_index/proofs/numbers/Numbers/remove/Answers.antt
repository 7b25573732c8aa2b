use Rattle.std.proofs.Common.{List, sym, ap, ◌∙◌, subst}
use Rattle.std.specs.Map.{remove_entry}
use Rattle.chunk_index.specs.declared.entry.Entry.{Entry}
use Rattle.chunk_index.specs.Keys.{IsInOrder, key_of}
use Rattle.chunk_index.specs.Pairs.{all_numbers}
use Rattle.chunk_index.proofs.Lists.{without_absent, without_in_order}
use Rattle.chunk_index.proofs.Maps.{Numbers, test}
use Rattle.chunk_index.proofs.Pairs.{pairs_in_order, listed-without}
use Rattle.chunk_index.proofs.numbers.Numbers.remove.Goals as goal

pub invariant_of-self : goal.invariant_of-self
invariant_of-self c = record {
  map_order = pairs_in_order c.remove.new.self.entries c.remove.ensures.ordered;
  late_order = subst (IsInOrder key_of) (sym c.take_out.ensures.without)
      (without_in_order key_of c.args.self.now.late c.args.key.now c.args.self.now.late_order);
}

pub invariant_of-self-else-has : goal.invariant_of-self-else-has
invariant_of-self-else-has c = record {
  map_order = pairs_in_order c.remove.new.self.entries c.remove.ensures.ordered;
  late_order = c.args.self.now.late_order;
}

pub returns-then-has-clause-without : goal.returns-then-has-clause-without
returns-then-has-clause-without c =
    let n = c.args.self.now in
    ap (λ (s : Numbers). all_numbers s c.take_out.new.tree) c.remove.ensures.entries
    ∙ ap (λ (t : List Entry). all_numbers (remove_entry (test c.args.key.now) n.map.entries) t) c.take_out.ensures.without
    ∙ listed-without n.map.entries n.late n.map_order n.late_order c.args.key.now

pub returns-else-has-clause-without : goal.returns-else-has-clause-without
returns-else-has-clause-without c =
    let n = c.args.self.now in
    ap (λ (s : Numbers). all_numbers s n.late) c.remove.ensures.entries
    ∙ ap (λ (t : List Entry). all_numbers (remove_entry (test c.args.key.now) n.map.entries) t)
    (sym (without_absent key_of n.late c.args.key.now (sym c.if-has.ensures)))
    ∙ listed-without n.map.entries n.late n.map_order n.late_order c.args.key.now
