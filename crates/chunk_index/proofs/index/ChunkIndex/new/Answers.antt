use Rattle.std.proofs.Common.{refl}
use Rattle.chunk_index.specs.Merges.{put_all}
use Rattle.chunk_index.proofs.Whole.{none-index}
use Rattle.chunk_index.proofs.index.ChunkIndex.new.Goals as goal

pub invariant_of-result : goal.invariant_of-result
invariant_of-result c =
    none-index _ c.new-2.result c.new-3.result c.new-4.result _ _ _ c.new.ensures.none c.new-2.ensures c.new-3.ensures c.new-4.ensures
    c.new.ensures.count c.new-5.ensures

pub returns : goal.returns
unfolding put_all
returns c = rw (c.new.ensures.none, c.new-4.ensures) refl
