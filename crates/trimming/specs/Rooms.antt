-- Room in which places are found.
use Rattle.std.specs.Prelude.{◌≡◌, ℕ, ◌<◌, ◌≤◌, false, length, vec_capacity}
use Rattle.links.specs.Walkers.{mark_at, AreMarked}
use Rattle.trimming.specs.declared.room.Room.{Room}

-- No place has a mark, and there is room for all places.
pub record IsReady (count : ℕ) (room : Room) : Type 0 where
  pub sized : length room.marks.items ≡ count
  pub clear : (place : ℕ) → place < count → mark_at room.marks.items place ≡ false
  pub space : count ≤ vec_capacity room.found

-- Places were found with their marks, and there is room for all places.
pub record IsFinding (count : ℕ) (room : Room) : Type 0 where
  pub marked : AreMarked count room.marks.items room.found.items
  pub space : count ≤ vec_capacity room.found
