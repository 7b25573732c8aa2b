-- What a block ends as, once a `&mut` to one of its items has ended.
use Rattle.std.specs.Prelude.{ℕ, slice_set}
use Rattle.std.specs.Borrow.{Lends, Fml, RattleType, MutBor}
use Rattle.node_pool.specs.Chunk.{Chunk, chunk}
use Rattle.node_pool.specs.contracts.block.Block.{the_row}

-- the item at the index is the last value written through r
abbrev pub lends_chunk : (S : RattleType) → MutBor (Chunk S.Denot) → ℕ → MutBor S.Denot → Fml
lends_chunk S b index r = Lends (the_row S) S b r (λ w. chunk (slice_set b.now.items index w) b.now.capacity)
