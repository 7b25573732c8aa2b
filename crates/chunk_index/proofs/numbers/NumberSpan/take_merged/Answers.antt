use Rattle.std.proofs.Common.{sym, ap, ◌∙◌}
use Rattle.chunk_index.specs.KeyOrder.{key_cmp}
use Rattle.chunk_index.specs.Keys.{key_of}
use Rattle.chunk_index.specs.Ends.{seen_from}
use Rattle.chunk_index.specs.Pairs.{pair_key}
use Rattle.chunk_index.specs.Parts.{part_left}
use Rattle.chunk_index.proofs.Merges.{taken_order}
use Rattle.chunk_index.proofs.Parts.{part_order}
use Rattle.chunk_index.proofs.Pairs.{span_alone, span_nearer, span_late}
use Rattle.chunk_index.proofs.numbers.NumberSpan.take_merged.Goals as goal

pub invariant_of-self : goal.invariant_of-self
invariant_of-self c =
    record {
      map_order = taken_order pair_key c.args.end c.take_mapped.result c.args.self.now.map c.take_mapped.new.map c.take_mapped.ensures
          c.args.self.now.map_order;
    }

pub returns-in_default : goal.returns-in_default
returns-in_default c =
    let p = c.args.self.now in
    let none = sym c.copy-late.ensures ∙ c.in_default.ensures.0 in
    span_alone c.args.end p.map c.take_mapped.new.map (part_left p.late) c.take_mapped.result (part_left p.late) none none c.take_mapped.ensures

pub returns-in-Some-take_nearer : goal.returns-in-Some-take_nearer
returns-in-Some-take_nearer c =
    let p = c.args.self.now in
    let near = c.in-Some-take_nearer.ensures.nearer in
    span_nearer c.args.end p.map c.take_nearer.new.self.map (part_left p.late) c.in-Some-take_nearer.nearer c.in-Some.entry (part_left c.take.new.self)
    (part_left c.take_nearer.new.self.late) near.0 (sym c.copy-late.ensures ∙ c.in-Some.ensures) p.map_order
    (part_order key_of p.late.tree.now p.late.from p.late.to p.late.order)
    (ap (λ k. seen_from c.args.end (key_cmp c.in-Some-take_nearer.nearer.0 k)) (sym c.of-key.ensures) ∙ near.1) c.take_nearer.ensures.late

pub returns : goal.returns
returns c =
    let p = c.args.self.now in
    span_late c.args.end p.map c.take_nearer.new.self.map (part_left p.late) c.of-key.result c.in-Some.entry (part_left c.take.new.self)
    c.in_default-take_nearer.ensures.nearer c.of-key.ensures (sym c.copy-late.ensures ∙ c.in-Some.ensures)
    (part_order key_of p.late.tree.now p.late.from p.late.to p.late.order)
