use Rattle.std.proofs.Common.{rules, ◌≡◌, ◌<◌, sym, refl, subst}
use Rattle.node_pool.specs.Links.{next_in}
use Rattle.node_pool.specs.Pool.{nodes_of}
use Rattle.node_pool.specs.Laws.{RingsGoRound}
use Rattle.node_pool.proofs.PoolLemmas.{same_rings}
use Rattle.node_pool.proofs.OrderLemmas.{SameOrder-of}
use Rattle.node_pool.proofs.RoundLemmas.{rings-round}
use Rattle.node_pool.proofs.pool.Pool.grow.Goals as goal
use Rattle.node_pool.proofs.pool.Pool.grow.Goals.{then-slots-room+in_ok-grow, else-slots-room}

pub returns-clause-rings : goal.returns-clause-rings
returns-clause-rings g c r below =
    let s = c.self.inside.nodes in let l = c.self.inside.rings in let i = c.self.inside.issued in
    elim c.if-slots-room.branch [
      | then-slots-room+in_ok-grow w ↦
          let in_row : r < l.width = subst (λ n. r < n) (sym c.self.invariant.width) below in
          let steps : next_in w.grow.new.self r ≡ next_in l r = λ j slot. (w.grow.ensures.links.links r slot in_row j).next in
          rw (← c.self.view_is, w.self-inside-is)
          (same_rings g.row.R s l i c.self.invariant c.grow-2.new.self w.grow.new.self r (rw w.self-inside-is at c.grow-2.ensures.slots) steps)
      | else-slots-room w ↦
          rw (← c.self.view_is, w.self-inside-is)
          (same_rings g.row.R s l i c.self.invariant c.grow-2.new.self l r (rw w.self-inside-is at c.grow-2.ensures.slots) refl)
    ]

pub returns-clause-order : goal.returns-clause-order
returns-clause-order g c r below =
    let s = c.self.inside.nodes in let l = c.self.inside.rings in let i = c.self.inside.issued in let t = c.grow-2.new.self in
    elim c.if-slots-room.branch [
      | then-slots-room+in_ok-grow w ↦
          let in_row : r < l.width = subst (λ n. r < n) (sym c.self.invariant.width) below in
          let steps : next_in w.grow.new.self r ≡ next_in l r = λ j slot. (w.grow.ensures.links.links r slot in_row j).next in
          rw (← c.self.view_is, w.self-inside-is) (SameOrder-of s t l w.grow.new.self i i r (rw w.self-inside-is at c.grow-2.ensures.slots) steps)
      | else-slots-room w ↦
          rw (← c.self.view_is, w.self-inside-is) (SameOrder-of s t l l i i r (rw w.self-inside-is at c.grow-2.ensures.slots) refl)
    ]

pub returns-in_err-grow-clause-round : goal.returns-in_err-grow-clause-round
returns-in_err-grow-clause-round g c =
    let s = c.self.inside.nodes in let l = c.self.inside.rings in let i = c.self.inside.issued in
    subst (λ m. RingsGoRound g.row.R (nodes_of s m i)) (sym c.in_err-grow.ensures.err) (rings-round g.row.R s l i c.self.invariant)

pub invariant_of-self-2 : goal.invariant_of-self-2
invariant_of-self-2 g c = search rules

pub returns-clause-round : goal.returns-clause-round
returns-clause-round g c =
    let now = c.if-slots-room.self-inside in
    rings-round g.row.R c.grow-2.new.self now.rings now.issued (invariant_of-self-2 g c)
