-- What a store ends as, once a `&mut` to one of its nodes has ended.
use Rattle.std.specs.Prelude.{ℕ}
use Rattle.std.specs.Borrow.{Lends, Fml, RattleType, MutBor}
use Rattle.node_pool.specs.Slots.{Slots, with_node}
use Rattle.node_pool.specs.contracts.store.Store.{the_row}

-- the slot has the last node written through r
abbrev pub lends_node : (N : RattleType) → MutBor (Slots N.Denot) → ℕ → MutBor N.Denot → Fml
lends_node N s slot r = Lends (the_row N) N s r (with_node s.now slot)
