-- What a write of one slot does to a store.
use Rattle.std.proofs.Common.{◌≡◌, ℕ, ◌<◌, length, set, Option, None, arith}
use Rattle.std.proofs.lemmas.List.{get_or-set_same, get_or-set_other, get_or_past}
use Rattle.node_pool.specs.Slots.{Slots, IsHeld, Updates}

module _ {N : Type 0} where
  -- a write of one slot changes what that slot has, and no other
  pub Updates-set : (old new : Slots N) (slot : ℕ) (node : Option N) → slot < length old.slots
      → new.slots ≡ set old.slots slot node → new.room ≡ old.room → Updates old new slot node
  Updates-set old new slot node within written room =
      record {
        changed = rw written (get_or-set_same old.slots slot node None within);
        others = λ other differs. rw written (get_or-set_other old.slots slot other node None differs);
        room = room;
      }

  -- a slot with a node is one of the slots
  pub IsHeld-within : (s : Slots N) (slot : ℕ) → IsHeld s slot → slot < length s.slots
  IsHeld-within s slot present = grind (arith, get_or_past)
