use Rattle.std.proofs.Common.{ap, ◌∙◌}
use Rattle.chunk_index.specs.Pairs.{all_numbers}
use Rattle.chunk_index.proofs.Maps.{Numbers}
use Rattle.chunk_index.proofs.Pairs.{pairs_in_order, listed-insert}
use Rattle.chunk_index.proofs.numbers.Numbers.insert.Goals as goal

pub invariant_of-self : goal.invariant_of-self
invariant_of-self c = record {
  map_order = pairs_in_order c.insert.new.self.entries c.insert.ensures.ordered;
  late_order = c.args.self.now.late_order;
}

pub returns-clause-ok : goal.returns-clause-ok
returns-clause-ok c =
    let n = c.args.self.now in
    ap (λ (s : Numbers). all_numbers s n.late) c.in_ok-insert.ensures.entries
    ∙ listed-insert n.map.entries n.late n.map_order n.late_order c.args.key c.args.number c.requires
