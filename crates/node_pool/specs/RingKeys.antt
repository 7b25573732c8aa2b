-- The keys that a walk along a ring gives.
use Rattle.std.specs.Prelude.{◌≡◌, ◌==◌, ◌^◌, ◌<◌, ◌↔◌, ℕ, zero, suc, List, [], ◌∷◌, Some, length, slice_get, Contains, if◌then◌else◌}
use Rattle.node_pool.specs.Cycles.{GoesAlong}
use Rattle.node_pool.specs.Nodes.{Nodes, key_in, next_slot, next_key, SameRing}
use Rattle.node_pool.specs.declared.pool.Key.{Key}
use Rattle.node_pool.specs.declared.ring.Ring.{Ring}

module _ {T : Type 0} where
  -- the keys from this slot on, until the next one would be the first, and at most so many
  abbrev pub keys_from : Nodes T → ℕ → ℕ → ℕ → ℕ → List Key
  keys_from n r first zero slot = []
  keys_from n r first (suc left) slot =
      key_in n slot ∷ (if next_slot n r slot == first then [] else keys_from n r first left (next_slot n r slot))

  -- the keys that are still to come
  abbrev pub ring_keys : {R : ℕ} → Ring T R → List Key
  ring_keys ring = keys_from ring.pool.now ring.r ring.first ring.left ring.slot

  -- these are the keys of the ring of a, each once, a first, each followed by the next, and the last by a
  pub record IsRing (n : Nodes T) (r : ℕ) (a : Key) (keys : List Key) : Type 0 where
    pub first : slice_get keys 0 ≡ Some a
    pub once : (i j : ℕ) (x : Key) → slice_get keys i ≡ Some x → slice_get keys j ≡ Some x → i ≡ j
    pub members : (x : Key) → Contains keys x ↔ SameRing n r a x
    pub along : GoesAlong (next_key n r) a keys a
    pub few : length keys < 2 ^ 32
