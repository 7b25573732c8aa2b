use Rattle.std.proofs.Common.{List, sym, ap, ◌∙◌, subst}
use Rattle.std.specs.BTreeMap.Range.{entries_between}
use Rattle.std.specs.declared.ops.Bound.TheVariants.{Included, Unbounded}
use Rattle.chunk_index.specs.declared.entry.Entry.{Entry}
use Rattle.chunk_index.specs.KeyOrder.{key_cmp}
use Rattle.chunk_index.specs.Keys.{IsInOrder, key_of, not_before}
use Rattle.chunk_index.specs.Pairs.{pair_key, all_numbers}
use Rattle.chunk_index.specs.Parts.{part_left}
use Rattle.chunk_index.proofs.Maps.{Numbers}
use Rattle.chunk_index.proofs.Parts.{behind_order}
use Rattle.chunk_index.proofs.Pairs.{between_from, listed-from}
use Rattle.chunk_index.proofs.numbers.Numbers.from.Goals as goal

pub invariant_of-result : goal.invariant_of-result
invariant_of-result c = record {
  map_order = subst (IsInOrder pair_key) (sym (c.range.ensures.between tt ∙ between_from c.args.key c.args.self.now.map.entries))
      (behind_order pair_key c.args.key c.args.self.now.map.entries c.args.self.now.map_order);
}

pub returns : goal.returns
returns c =
    let n = c.args.self.now in
    let k = c.args.key in
    ap (λ (s : Numbers). all_numbers s (part_left c.skip_before.new.self)) (c.range.ensures.between tt)
    ∙ ap (λ (t : List Entry). all_numbers (entries_between key_cmp (Included k) Unbounded n.map.entries) t)
    (c.skip_before.ensures ∙ ap (λ (t : List Entry). not_before key_of t k) c.whole-late.ensures)
    ∙ listed-from n.map.entries n.late n.map_order n.late_order k
