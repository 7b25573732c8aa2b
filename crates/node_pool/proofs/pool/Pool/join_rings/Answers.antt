use Rattle.std.proofs.Common.{◌≢◌, refl}
use Rattle.node_pool.proofs.PoolLemmas.{IsHeld-of_live, apart-steps, elsewhere-next, IsPool-join, unites_join, same_rings}
use Rattle.node_pool.proofs.OrderLemmas.{SameOrder-of, ExchangesNext-of}
use Rattle.node_pool.proofs.RoundLemmas.{rings-round}
use Rattle.node_pool.proofs.pool.Pool.join_rings.Goals as goal

pub invariant_of-self : goal.invariant_of-self
invariant_of-self g c =
    let s = c.self.inside.nodes in let l = c.self.inside.rings in let i = c.self.inside.issued in
    let live_a = rw (← c.self.view_is) at c.requires.a in let live_b = rw (← c.self.view_is) at c.requires.b in
    let distinct : c.args.a.slot ≢ c.args.b.slot =
    λ e. apart-steps g.row.R s l i c.self.invariant c.args.r c.args.a c.args.b c.requires.r_in_range live_a live_b
    (rw (← c.self.view_is) at c.requires.apart) (0, e) in
    IsPool-join g.row.R s l i c.self.invariant c.join.new.self c.args.r c.args.a.slot c.args.b.slot c.requires.r_in_range
    (IsHeld-of_live s l i c.args.a live_a) (IsHeld-of_live s l i c.args.b live_b) distinct c.join.ensures

pub returns-clause-united : goal.returns-clause-united
returns-clause-united g c =
    let s = c.self.inside.nodes in let l = c.self.inside.rings in let i = c.self.inside.issued in
    rw (← c.self.view_is) (unites_join g.row.R s l i c.self.invariant c.join.new.self c.args.r c.args.a c.args.b c.requires.r_in_range c.join.ensures.next
    (rw (← c.self.view_is) at c.requires.a) (rw (← c.self.view_is) at c.requires.b) (rw (← c.self.view_is) at c.requires.apart))

pub returns-clause-others : goal.returns-clause-others
returns-clause-others g c q below apart =
    let s = c.self.inside.nodes in let l = c.self.inside.rings in let i = c.self.inside.issued in
    let same = elsewhere-next g.row.R s l i c.self.invariant c.join.new.self c.args.r q c.join.ensures.elsewhere below apart in
    rw (← c.self.view_is) (same_rings g.row.R s l i c.self.invariant s c.join.new.self q refl same)

pub returns-clause-exchanged : goal.returns-clause-exchanged
returns-clause-exchanged g c =
    let s = c.self.inside.nodes in let l = c.self.inside.rings in let i = c.self.inside.issued in
    rw (← c.self.view_is) (ExchangesNext-of g.row.R s l i c.self.invariant c.join.new.self c.args.r c.args.a c.args.b c.join.ensures.next
    (rw (← c.self.view_is) at c.requires.a) (rw (← c.self.view_is) at c.requires.b))

pub returns-clause-order : goal.returns-clause-order
returns-clause-order g c q below apart =
    let s = c.self.inside.nodes in let l = c.self.inside.rings in let i = c.self.inside.issued in
    let same = elsewhere-next g.row.R s l i c.self.invariant c.join.new.self c.args.r q c.join.ensures.elsewhere below apart in
    rw (← c.self.view_is) (SameOrder-of s s l c.join.new.self i i q refl same)

pub returns-clause-round : goal.returns-clause-round
returns-clause-round g c = rings-round g.row.R c.self.inside.nodes c.join.new.self c.self.inside.issued (invariant_of-self g c)
