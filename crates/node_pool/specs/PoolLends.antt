-- What a pool ends as, once a `&mut` to one of its values has ended.
use Rattle.std.specs.Prelude.{Option}
use Rattle.std.specs.Borrow.{Lends, LendsIf, Fml, RattleType, MutBor}
use Rattle.node_pool.specs.Nodes.{Nodes, with_value}
use Rattle.node_pool.specs.contracts.pool.Pool.{the_row}
use Rattle.node_pool.specs.declared.pool.Key.{Key}

module _ (T R : RattleType) (pool : MutBor (Nodes T.Denot)) (key : Key) where
  -- once the borrow r ends, the key has the last value written through r
  abbrev pub lends_value : MutBor T.Denot → Fml
  lends_value r = Lends (the_row T R) T pool r (with_value pool.now key)

  -- the same where r is a reference, and at `None` the pool stays as it is
  abbrev pub lends_get : Option (MutBor T.Denot) → Fml
  lends_get r = LendsIf (the_row T R) T pool r (with_value pool.now key) pool.now
