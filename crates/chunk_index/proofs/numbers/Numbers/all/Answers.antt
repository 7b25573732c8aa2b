use Rattle.std.proofs.Common.{List, sym, ap, ◌∙◌, subst}
use Rattle.chunk_index.specs.declared.entry.Entry.{Entry}
use Rattle.chunk_index.specs.Keys.{IsInOrder}
use Rattle.chunk_index.specs.Pairs.{pair_key, all_numbers}
use Rattle.chunk_index.specs.Parts.{part_left}
use Rattle.chunk_index.proofs.Maps.{Numbers}
use Rattle.chunk_index.proofs.Pairs.{all_between}
use Rattle.chunk_index.proofs.numbers.Numbers.all.Goals as goal

pub invariant_of-result : goal.invariant_of-result
invariant_of-result c = record {
  map_order = subst (IsInOrder pair_key) (sym (c.range.ensures.between tt ∙ all_between c.args.self.now.map.entries)) c.args.self.now.map_order;
}

pub returns : goal.returns
returns c =
    ap (λ (s : Numbers). all_numbers s (part_left c.whole.result)) (c.range.ensures.between tt ∙ all_between c.args.self.now.map.entries)
    ∙ ap (λ (t : List Entry). all_numbers c.args.self.now.map.entries t) c.whole.ensures
