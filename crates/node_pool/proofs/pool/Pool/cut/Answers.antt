use Rattle.std.proofs.Common.{refl, subst}
use Rattle.node_pool.specs.Laws.{RingsGoRound}
use Rattle.node_pool.proofs.PoolLemmas.{IsHeld-of_live, elsewhere-next, IsPool-cut, parts_cut, same_rings}
use Rattle.node_pool.proofs.OrderLemmas.{SameOrder-of, PassesOver-of, next_key-alone}
use Rattle.node_pool.proofs.RoundLemmas.{rings-round}
use Rattle.node_pool.proofs.pool.Pool.cut.Goals as goal

pub invariant_of-self : goal.invariant_of-self
invariant_of-self g c =
    let s = c.self.inside.nodes in let l = c.self.inside.rings in let i = c.self.inside.issued in
    IsPool-cut g.row.R s l i c.self.invariant c.cut.new.self c.args.r c.args.a.slot c.requires.r_in_range
    (IsHeld-of_live s l i c.args.a (rw (← c.self.view_is) at c.requires.live)) c.cut.ensures

pub returns-clause-parted : goal.returns-clause-parted
returns-clause-parted g c =
    let s = c.self.inside.nodes in let l = c.self.inside.rings in let i = c.self.inside.issued in
    rw (← c.self.view_is) (parts_cut g.row.R s l i c.self.invariant s c.cut.new.self i c.args.r c.args.a c.requires.r_in_range c.cut.ensures.next
    (rw (← c.self.view_is) at c.requires.live) (λ _ _. refl) (λ x _ live. live))

pub returns-clause-others : goal.returns-clause-others
returns-clause-others g c q below apart =
    let s = c.self.inside.nodes in let l = c.self.inside.rings in let i = c.self.inside.issued in
    let same = elsewhere-next g.row.R s l i c.self.invariant c.cut.new.self c.args.r q c.cut.ensures.elsewhere below apart in
    rw (← c.self.view_is) (same_rings g.row.R s l i c.self.invariant s c.cut.new.self q refl same)

pub returns-clause-passed : goal.returns-clause-passed
returns-clause-passed g c =
    let s = c.self.inside.nodes in let l = c.self.inside.rings in let i = c.self.inside.issued in
    let live = rw (← c.self.view_is) at c.requires.live in
    rw (← c.self.view_is) (
      PassesOver-of g.row.R s l i c.self.invariant s c.cut.new.self i c.args.r c.args.a c.requires.r_in_range c.cut.ensures.next live (λ _ _. refl),
      next_key-alone g.row.R s l i c.self.invariant c.cut.new.self i c.args.r c.args.a c.cut.ensures.next.at_a live,
    )

pub returns-clause-order : goal.returns-clause-order
returns-clause-order g c q below apart =
    let s = c.self.inside.nodes in let l = c.self.inside.rings in let i = c.self.inside.issued in
    let same = elsewhere-next g.row.R s l i c.self.invariant c.cut.new.self c.args.r q c.cut.ensures.elsewhere below apart in
    rw (← c.self.view_is) (SameOrder-of s s l c.cut.new.self i i q refl same)

pub returns-clause-round : goal.returns-clause-round
returns-clause-round g c =
    let s = c.self.inside.nodes in let l = c.self.inside.rings in let i = c.self.inside.issued in (
      subst (RingsGoRound g.row.R) c.self.view_is (rings-round g.row.R s l i c.self.invariant),
      rings-round g.row.R s c.cut.new.self i (invariant_of-self g c),
    )
