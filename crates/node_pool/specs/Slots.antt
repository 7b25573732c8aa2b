-- What a contract sees of a store of nodes under numbered slots.
use Rattle.std.specs.Prelude.{◌≡◌, ◌≢◌, ℕ, List, Option, Some, None, is_some, IsSome, count_by, slice_index_or, slice_set, refl}
use Rattle.std.specs.Coded.{Coded, code_by, coded×, coded_ℕ, coded_list, coded_option}

-- the node or nothing in each slot from 0 on, and how many nodes there is room for in all
pub record Slots (N : Type 0) : Type 0 where
  pub slots : List (Option N)
  pub room : ℕ

module _ {N : Type 0} where
  -- a store is stored as the pair of its fields
  abbrev pub slots_code : Coded N → Coded (Slots N)
  slots_code c =
      code_by (List (Option N) × ℕ) (coded× (coded_list (coded_option c)) coded_ℕ)
      (λ s. (s.slots, s.room)) (λ p. record { slots = p.0; room = p.1 }) (λ _. refl)

  -- the node in a slot
  abbrev pub node_in : Slots N → ℕ → Option N
  node_in s slot = slice_index_or s.slots slot None

  -- the slot has a node
  abbrev pub IsHeld : Slots N → ℕ → Type 0
  IsHeld s slot = IsSome (node_in s slot)

  -- how many slots have a node
  abbrev pub held_count : Slots N → ℕ
  held_count s = count_by is_some s.slots

  -- the store with another node in the slot
  abbrev pub with_node : Slots N → ℕ → N → Slots N
  with_node s slot node = record s { slots = slice_set s.slots slot (Some node) }

  -- the new store has this in the slot, and every other slot keeps what it had
  pub record Updates (old new : Slots N) (slot : ℕ) (node : Option N) : Type 0 where
    pub changed : node_in new slot ≡ node
    pub others : (other : ℕ) → other ≢ slot → node_in new other ≡ node_in old other
    pub room : new.room ≡ old.room
