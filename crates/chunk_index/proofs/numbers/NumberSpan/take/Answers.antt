use Rattle.chunk_index.specs.Parts.{part_left}
use Rattle.chunk_index.specs.Pairs.{pair_key}
use Rattle.chunk_index.proofs.Merges.{taken_order}
use Rattle.chunk_index.proofs.Pairs.{span_alone}
use Rattle.chunk_index.proofs.numbers.NumberSpan.take.Goals as goal

pub invariant_of-self : goal.invariant_of-self
invariant_of-self c =
    record {
      map_order = taken_order pair_key c.args.end c.take_mapped.result c.args.self.now.map c.take_mapped.new.map c.take_mapped.ensures
          c.args.self.now.map_order;
    }

pub returns-then-is_empty : goal.returns-then-is_empty
returns-then-is_empty c =
    let p = c.args.self.now in
    let none = c.is_empty.ensures c.if-is_empty.true in
    span_alone c.args.end p.map c.take_mapped.new.map (part_left p.late) c.take_mapped.result (part_left p.late) none none c.take_mapped.ensures
