-- How a pool keeps its nodes.
use Rattle.std.specs.Prelude.{◌≡◌, ◌⊎◌, ℕ, ◌-◌, ◌<◌, ◌≤◌, ◌^◌, map, Some, None, min}
use Rattle.node_pool.specs.Slots.{Slots, node_in, IsHeld, held_count}
use Rattle.node_pool.specs.Cycles.{IsMutual}
use Rattle.node_pool.specs.Row.{grown}
use Rattle.node_pool.specs.Links.{Links, next_in, prev_in}
use Rattle.node_pool.specs.Nodes.{Nodes}
use Rattle.node_pool.specs.declared.rings.Link.{Link}
use Rattle.node_pool.specs.declared.pool.Node.{Node}

abbrev pub next_of : Link → ℕ
next_of l = l.next

module _ {T : Type 0} where
  -- what a contract sees of a pool
  abbrev pub nodes_of : Slots (Node T) → Links → ℕ → Nodes T
  nodes_of s l issued =
      record { slots = s.slots; next = map next_of l.links; partitions = l.width; spare = min s.room l.slots - held_count s; issued = issued }

  -- each node has a number that was issued and a slot with links, the links of each partition go round in rings, and
  -- a slot with no node is alone in its ring
  pub record IsPool (R : ℕ) (s : Slots (Node T)) (l : Links) (issued : ℕ) : Type 0 where
    pub numbers : (slot : ℕ) (node : Node T) → node_in s slot ≡ Some node → node.number < issued
    pub width : l.width ≡ R
    pub covered : (slot : ℕ) → IsHeld s slot → slot < l.slots
    pub mutual-rings : (r : ℕ) → r < R → IsMutual (next_in l r) (prev_in l r)
    pub alone : (r slot : ℕ) → r < R → node_in s slot ≡ None → next_in l r slot ≡ slot
    pub room : (held_count s ≤ s.room) × (s.room ≤ l.slots) × (l.slots < 2 ^ 32)
    pub grows : (l.slots ≡ s.room) ⊎ (l.slots ≡ grown s.room)
