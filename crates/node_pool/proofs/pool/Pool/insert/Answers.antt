use Rattle.std.proofs.Common.{◌+◌, IsSome, refl, sym, ap, subst, ◌∙◌, arith}
use Rattle.node_pool.specs.Slots.{node_in}
use Rattle.node_pool.specs.Nodes.{numbered}
use Rattle.node_pool.specs.declared.pool.Key.{Key}
use Rattle.node_pool.specs.declared.pool.Node.{Node}
use Rattle.node_pool.proofs.RingLemmas.{numbered-same}
use Rattle.node_pool.proofs.PoolLemmas.{IsPool-insert, parts_fresh, others_fresh}
use Rattle.node_pool.proofs.OrderLemmas.{SameOrder-insert, next_key-insert}
use Rattle.node_pool.proofs.RoundLemmas.{rings-round}
use Rattle.node_pool.proofs.pool.Pool.insert.Goals as goal

pub invariant_of-self : goal.invariant_of-self
invariant_of-self g c =
    let s = c.self.inside.nodes in let l = c.self.inside.rings in let i = c.self.inside.issued in
    let updates = c.insert-slot.ensures.updates in
    let spare = rw (← c.self.view_is) at c.requires.spare in
    let room = updates.room in
    let len = c.insert-slot.ensures.len in
    IsPool-insert g.row.R s l i c.self.invariant c.insert-slot.new.self c.insert-slot.result _ refl
    c.insert-slot.ensures.was_vacant updates c.insert-slot.ensures.in_range (search (arith, spare))

pub returns-clause-rings : goal.returns-clause-rings
returns-clause-rings g c r below =
    let s = c.self.inside.nodes in let l = c.self.inside.rings in let i = c.self.inside.issued in
    let node : Node g.row.T.Denot = record { number = i; value = c.args.value } in
    let key : Key = record { slot = c.insert-slot.result; number = i } in
    let updates = c.insert-slot.ensures.updates in
    let found : IsSome (numbered i (node_in c.insert-slot.new.self key.slot)) =
    subst IsSome (sym (ap (numbered i) updates.changed ∙ numbered-same i node refl)) refl in
    rw (← c.self.view_is) (parts_fresh g.row.R s l i c.self.invariant c.insert-slot.new.self r key below c.insert-slot.ensures.was_vacant found
    (others_fresh s c.insert-slot.new.self key node refl c.insert-slot.ensures.was_vacant updates))

pub returns-clause-order : goal.returns-clause-order
returns-clause-order g c r below =
    let s = c.self.inside.nodes in let l = c.self.inside.rings in let i = c.self.inside.issued in
    let t = c.insert-slot.new.self in let slot = c.insert-slot.result in
    let node : Node g.row.T.Denot = record { number = i; value = c.args.value } in
    let vacant = c.insert-slot.ensures.was_vacant in let updates = c.insert-slot.ensures.updates in
    rw (← c.self.view_is) (
      SameOrder-insert g.row.R s l i c.self.invariant t (i + 1) r slot node below vacant updates,
      next_key-insert g.row.R s l i c.self.invariant t (i + 1) r slot node below vacant updates,
    )

pub returns-clause-round : goal.returns-clause-round
returns-clause-round g c = rings-round g.row.R c.insert-slot.new.self c.self.inside.rings (c.self.inside.issued + 1) (invariant_of-self g c)
