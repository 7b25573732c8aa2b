-- How the items of a row lie in its blocks, each of which has twice the room of the one before.
use Rattle.std.specs.Prelude.{◌≡◌, ℕ, zero, suc, ◌+◌, ◌*◌, ◌^◌, ◌<◌, ◌≤◌, List, [], ◌∷◌, ◌++◌, length, Bool, false, ◌==◌, if◌then◌else◌, Option, Some, None, slice_get}
use Rattle.node_pool.specs.Chunk.{Chunk}

module _ {S : Type 0} where
  -- the items of the blocks, one block after the other
  abbrev pub flat : List (Chunk S) → List S
  flat [] = []
  flat (b ∷ bs) = b.items ++ flat bs

  -- a block with room for 2^k slots
  abbrev pub IsSized : ℕ → ℕ → Chunk S → Type 0
  IsSized k width b = (b.capacity ≡ 2 ^ k * width) × (b.capacity < 2 ^ 63)

  -- blocks with no items, with room for 2^k slots and on
  abbrev pub AreEmpty : ℕ → ℕ → List (Chunk S) → Type 0
  AreEmpty k width [] = Unit {0}
  AreEmpty k width (b ∷ bs) = IsSized k width b × (b.items ≡ []) × AreEmpty (k + 1) width bs

  -- blocks with room for 2^k slots and on, so many of them full, and all behind the next one empty
  abbrev pub AreLaid : ℕ → ℕ → ℕ → List (Chunk S) → Type 0
  AreLaid k width zero [] = Unit {0}
  AreLaid k width (suc full) [] = ⊥
  AreLaid k width zero (b ∷ bs) = IsSized k width b × (length b.items ≤ b.capacity) × AreEmpty (k + 1) width bs
  AreLaid k width (suc full) (b ∷ bs) = IsSized k width b × (length b.items ≡ b.capacity) × AreLaid (k + 1) width full bs

  -- there is a block, and it has no room
  abbrev pub is_full_block : Option (Chunk S) → Bool
  is_full_block None = false
  is_full_block (Some b) = length b.items == b.capacity

  -- the block that takes the next item, where so many are full
  abbrev pub next_open : List (Chunk S) → ℕ → ℕ
  next_open bs full = if is_full_block (slice_get bs full) then full + 1 else full
