use Rattle.std.proofs.Common.{List, sym, ap, ◌∙◌, subst}
use Rattle.chunk_index.specs.declared.entry.Entry.{Entry}
use Rattle.chunk_index.specs.Keys.{IsInOrder, key_of}
use Rattle.chunk_index.specs.Kept.{entry_from}
use Rattle.chunk_index.specs.Pairs.{all_numbers}
use Rattle.chunk_index.proofs.Merges.{put_order}
use Rattle.chunk_index.proofs.Pairs.{listed-late, lacks_late}
use Rattle.chunk_index.proofs.numbers.Numbers.list.Goals as goal

pub put_in-requires-clause-absent : goal.put_in-requires-clause-absent
put_in-requires-clause-absent c =
    let n = c.args.self.now in
    lacks_late n.map.entries n.late n.map_order n.late_order c.args.key c.requires.absent

pub invariant_of-self : goal.invariant_of-self
invariant_of-self c = record {
  map_order = c.args.self.now.map_order;
  late_order = subst (IsInOrder key_of) (sym c.put_in.ensures.put)
      (put_order key_of c.args.self.now.late (entry_from c.args.key c.args.number) c.args.self.now.late_order);
}

pub returns-clause-put : goal.returns-clause-put
returns-clause-put c =
    let n = c.args.self.now in
    ap (λ (t : List Entry). all_numbers n.map.entries t) c.put_in.ensures.put
    ∙ listed-late n.map.entries n.late n.map_order n.late_order (entry_from c.args.key c.args.number)
