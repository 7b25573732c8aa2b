-- How a row keeps its blocks.
use Rattle.std.specs.Prelude.{◌≡◌, ◌+◌, ◌^◌, ◌≤◌, length}
use Rattle.node_pool.specs.Laid.{AreLaid}
use Rattle.node_pool.specs.declared.places.Places.TheInside.{Inside}

-- the blocks are full one after the other, block k has room for 2^k slots, and all have room for one slot less than
-- the next would have
pub record ArePlaces {S : Type 0} (p : Inside S) : Type 0 where
  pub laid : AreLaid 0 p.width p.full p.blocks.items
  pub room : (p.room + 1 ≡ 2 ^ length p.blocks.items) × (length p.blocks.items ≤ 32)
