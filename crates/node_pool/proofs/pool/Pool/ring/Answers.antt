use Rattle.std.proofs.Common.{◌≡◌, ℕ, ◌<◌, suc, sym, subst}
use Rattle.node_pool.specs.Cycles.{walked}
use Rattle.node_pool.specs.Nodes.{Nodes, HasNode}
use Rattle.node_pool.specs.Pool.{nodes_of}
use Rattle.node_pool.proofs.PoolLemmas.{IsHeld-of_live, next_slot-of, comes_round_within, next-one, next-held}
use Rattle.node_pool.proofs.WalkLemmas.{IsRing-of}
use Rattle.node_pool.proofs.pool.Pool.ring.Goals as goal

pub returns : goal.returns
returns g c =
    let s = c.self.inside.nodes in let l = c.self.inside.rings in let i = c.self.inside.issued in let r = c.args.r in let a = c.args.a in
    let n : Nodes g.row.T.Denot = nodes_of s l i in
    let steps = next_slot-of s l i r in let pool = c.self.invariant in let below = c.requires.r_in_range in
    let live = rw (← c.self.view_is) at c.requires.live in
    rw (← c.self.view_is, c.slots.ensures.slots) (IsRing-of n r a live l.slots
    (subst (λ (f : ℕ → ℕ). (k : ℕ) × (k < l.slots) × (walked f (suc k) a.slot ≡ a.slot)) (sym steps)
    (comes_round_within g.row.R s l i pool r a.slot below (IsHeld-of_live s l i a live)))
    (subst (λ (f : ℕ → ℕ). (s t : ℕ) → f s ≡ f t → s ≡ t) (sym steps) (next-one g.row.R s l i pool r below))
    (subst (λ (f : ℕ → ℕ). (slot : ℕ) → HasNode n slot → HasNode n (f slot)) (sym steps) (next-held g.row.R s l i pool r below))
    (rw (← c.slots.ensures.slots) c.slots.ensures.within))
