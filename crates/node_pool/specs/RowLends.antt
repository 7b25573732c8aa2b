-- What a row ends as, once a `&mut` to one of its items has ended.
use Rattle.std.specs.Prelude.{ℕ}
use Rattle.std.specs.Borrow.{Lends, Fml, RattleType, MutBor}
use Rattle.node_pool.specs.Row.{Row, with_item}
use Rattle.node_pool.specs.contracts.places.Places.{the_row}

-- the item at the index is the last value written through r
abbrev pub lends_item : (S : RattleType) → MutBor (Row S.Denot) → ℕ → MutBor S.Denot → Fml
lends_item S p index r = Lends (the_row S) S p r (with_item p.now index)
