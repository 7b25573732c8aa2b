use Rattle.std.proofs.Common.{◌∙◌, arith}
use Rattle.chunk_index.specs.Numbers.{count, listed}
use Rattle.chunk_index.proofs.Pairs.{listed_length}
use Rattle.chunk_index.proofs.Whole.{caught-index}
use Rattle.chunk_index.proofs.index.ChunkIndex.catch_up.Goals as goal

pub invariant_of-self : goal.invariant_of-self
invariant_of-self c =
    let now = c.catch_up-2.new.self in
    caught-index c.self.invariant (listed now) (count now) (c.catch_up-2.ensures.same ∙ c.catch_up.ensures.same)
    (listed_length now.map.entries now.late now.map_order) (omega (arith, c.catch_up-2.ensures.count, c.catch_up.ensures.count))
