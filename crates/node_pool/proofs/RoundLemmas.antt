-- The rings of a pool go round.
use Rattle.std.proofs.Common.{◌≡◌, ℕ, ◌<◌, suc, sym, subst}
use Rattle.node_pool.specs.Cycles.{walked}
use Rattle.node_pool.specs.Slots.{Slots}
use Rattle.node_pool.specs.Links.{Links}
use Rattle.node_pool.specs.Nodes.{Nodes, HasNode}
use Rattle.node_pool.specs.Pool.{nodes_of, IsPool}
use Rattle.node_pool.specs.RingKeys.{keys_from}
use Rattle.node_pool.specs.Laws.{RingsGoRound}
use Rattle.node_pool.specs.declared.pool.Node.{Node}
use Rattle.node_pool.proofs.PoolLemmas.{IsHeld-of_live, next_slot-of, comes_round_within, next-one, next-held}
use Rattle.node_pool.proofs.WalkLemmas.{IsRing-of}

pub rings-round : {T : Type 0} (R : ℕ) (s : Slots (Node T)) (l : Links) (issued : ℕ) → IsPool R s l issued → RingsGoRound R (nodes_of s l issued)
rings-round {T} R s l issued pool r a below live =
    let n : Nodes T = nodes_of s l issued in let steps = next_slot-of s l issued r in (
      keys_from n r a.slot l.slots a.slot,
      IsRing-of n r a live l.slots
          (subst (λ (f : ℕ → ℕ). (k : ℕ) × (k < l.slots) × (walked f (suc k) a.slot ≡ a.slot)) (sym steps)
          (comes_round_within R s l issued pool r a.slot below (IsHeld-of_live s l issued a live)))
          (subst (λ (f : ℕ → ℕ). (s t : ℕ) → f s ≡ f t → s ≡ t) (sym steps) (next-one R s l issued pool r below))
          (subst (λ (f : ℕ → ℕ). (slot : ℕ) → HasNode n slot → HasNode n (f slot)) (sym steps) (next-held R s l issued pool r below))
          pool.room.2,
    )
