use Rattle.std.proofs.Common.{map, arith}
use Rattle.std.proofs.lemmas.List.{length-map}
use Rattle.chunk_index.specs.Pairs.{pair_key, pair_of}
use Rattle.chunk_index.proofs.Merges.{all_length}
use Rattle.chunk_index.proofs.numbers.Numbers.len.Goals as goal

pub returns-clause-more : goal.returns-clause-more
returns-clause-more c =
    let most = all_length pair_key c.args.self.now.map.entries (map pair_of c.args.self.now.late) c.args.self.now.map_order in
    omega (arith, most, length-map c.args.self.now.late pair_of, c.len.ensures.len, c.len-2.ensures)
