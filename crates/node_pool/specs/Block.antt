-- How a block holds its items.
use Rattle.std.specs.Prelude.{◌≡◌, ◌<◌, ◌≤◌, ◌^◌, length}
use Rattle.node_pool.specs.CellPlaces.{somes, filled}
use Rattle.node_pool.specs.declared.block.Block.TheInside.{Inside}

module _ {S : Type 0} where
  -- the memory is the block's own, and its items fill the first places
  pub record IsBlock (b : Inside S) : Type 0 where
    pub memory : (b.cells.at ≡ b.base.ptr) × (b.deed.at ≡ b.base.ptr) × (b.deed.len ≡ b.capacity) × (b.deed.alloc ≡ b.alloc)
    pub laid : b.cells.slots ≡ filled (somes b.cells.slots) b.capacity
    pub count : (b.len ≡ length (somes b.cells.slots)) × (b.len ≤ b.capacity) × (b.capacity < 2 ^ 63)
