use Rattle.std.proofs.Common.{List, is_some, sym, ap, ◌∙◌, subst}
use Rattle.chunk_index.specs.declared.entry.Entry.{Entry}
use Rattle.chunk_index.specs.Keys.{IsInOrder, key_of, without}
use Rattle.chunk_index.specs.Pairs.{all_numbers}
use Rattle.chunk_index.proofs.Finds.{number-has}
use Rattle.chunk_index.proofs.Lists.{without_in_order}
use Rattle.chunk_index.proofs.Maps.{Numbers, false_true}
use Rattle.chunk_index.proofs.Pairs.{pairs_in_order, listed_caught}
use Rattle.chunk_index.proofs.numbers.Numbers.catch_up.Goals as goal

pub unreachable-requires : goal.unreachable-requires
unreachable-requires c =
    false_true (ap is_some c.in_default-find.ensures ∙ sym (number-has c.args.self.now.late c.in-Some.key) ∙ c.in-Some.ensures)

pub invariant_of-self : goal.invariant_of-self
invariant_of-self c = record {
  map_order = pairs_in_order c.insert.new.self.entries c.insert.ensures.ordered;
  late_order = subst (IsInOrder key_of) (sym c.take_out.ensures.without)
      (without_in_order key_of c.args.self.now.late c.in-Some.key c.args.self.now.late_order);
}

pub returns-in-Ok-clause-same : goal.returns-in-Ok-clause-same
returns-in-Ok-clause-same c =
    let n = c.args.self.now in
    ap (λ (t : List Entry). all_numbers c.insert.new.self.entries t) c.take_out.ensures.without
    ∙ ap (λ (s : Numbers). all_numbers s (without key_of n.late c.in-Some.key)) c.in-Ok.ensures.entries
    ∙ listed_caught n.map.entries n.late n.map_order n.late_order c.in-Some.key c.in-Some-find.number (sym c.in-Some-find.ensures)
