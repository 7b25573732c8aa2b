use Rattle.std.proofs.Common.{◌≡◌, ◌<◌, None, IsSome, sym, ap, subst, true≢false}
use Rattle.node_pool.specs.Slots.{node_in}
use Rattle.node_pool.specs.Nodes.{numbered, value_at, IsLive}
use Rattle.node_pool.specs.Pool.{nodes_of}
use Rattle.node_pool.specs.Laws.{RingsGoRound}
use Rattle.node_pool.proofs.LinkLemmas.{IsCutBelow-step, IsCutBelow-most}
use Rattle.node_pool.proofs.PoolLemmas.{IsPool-take, parts_cut, others_taken}
use Rattle.node_pool.proofs.RingLemmas.{numbered-some}
use Rattle.node_pool.proofs.OrderLemmas.{PassesOver-of}
use Rattle.node_pool.proofs.RoundLemmas.{rings-round}
use Rattle.node_pool.proofs.pool.Pool.take.Goals as goal

pub loop-r-preserved : goal.loop-r-preserved
loop-r-preserved g c =
    let kept = c.loop-r.invariant in
    let in_range : c.loop-r.r < c.self.inside.rings.width = subst (λ w. c.loop-r.r < w) (sym c.self.invariant.width) c.loop-r-test.true in
    (kept.0, kept.1, IsCutBelow-step c.self.inside.rings c.loop-r.self-inside.rings c.cut.new.self c.args.key.slot c.loop-r.r in_range kept.2 c.cut.ensures)

pub invariant_of-self : goal.invariant_of-self
invariant_of-self g c =
    let kept = c.loop-r.invariant in
    let s = c.self.inside.nodes in let l = c.self.inside.rings in let i = c.self.inside.issued in
    let cut = IsCutBelow-most l c.loop-r.self-inside.rings c.args.key.slot c.loop-r.r g.row.R c.loop-r-test.false kept.2 in
    let updates = rw kept.0 at c.remove-value.ensures.updates in
    let counted = rw kept.0 at c.remove-value.ensures.len in
    rw kept.1 (IsPool-take g.row.R s l i c.self.invariant c.remove-value.new.self c.loop-r.self-inside.rings c.args.key.slot cut updates counted)

pub returns-clause-rings : goal.returns-clause-rings
returns-clause-rings g c r below =
    let kept = c.loop-r.invariant in
    let s = c.self.inside.nodes in let l = c.self.inside.rings in let i = c.self.inside.issued in let key = c.args.key in
    let cut = IsCutBelow-most l c.loop-r.self-inside.rings key.slot c.loop-r.r g.row.R c.loop-r-test.false kept.2 in
    let updates = rw kept.0 at c.remove-value.ensures.updates in
    let live : IsLive (nodes_of s l i) key = rw (← c.self.view_is) at (c.is_live.ensures.0 c.if-not-is_live.false) in
    let here = numbered-some key.number (node_in s key.slot) live in
    let gone : value_at (nodes_of c.remove-value.new.self c.loop-r.self-inside.rings i) key ≡ None = ap (numbered key.number) updates.changed in
    rw (← c.self.view_is, kept.1)
    (parts_cut g.row.R s l i c.self.invariant c.remove-value.new.self c.loop-r.self-inside.rings i r key below (cut.next r below) live
    (others_taken s c.remove-value.new.self key here.0 here.2 here.1 updates) (λ x stays _. absurd (true≢false (sym (subst IsSome gone stays)))))

pub returns-clause-order : goal.returns-clause-order
returns-clause-order g c r below =
    let kept = c.loop-r.invariant in
    let s = c.self.inside.nodes in let l = c.self.inside.rings in let i = c.self.inside.issued in let key = c.args.key in
    let cut = IsCutBelow-most l c.loop-r.self-inside.rings key.slot c.loop-r.r g.row.R c.loop-r-test.false kept.2 in
    let updates = rw kept.0 at c.remove-value.ensures.updates in
    let live : IsLive (nodes_of s l i) key = rw (← c.self.view_is) at (c.is_live.ensures.0 c.if-not-is_live.false) in
    rw (← c.self.view_is, kept.1) (PassesOver-of g.row.R s l i c.self.invariant c.remove-value.new.self c.loop-r.self-inside.rings i r key below
    (cut.next r below) live updates.others)

pub returns-then-not-is_live-clause-round : goal.returns-then-not-is_live-clause-round
returns-then-not-is_live-clause-round g c =
    subst (RingsGoRound g.row.R) c.self.view_is (rings-round g.row.R c.self.inside.nodes c.self.inside.rings c.self.inside.issued c.self.invariant)

pub returns-clause-round : goal.returns-clause-round
returns-clause-round g c = rings-round g.row.R c.remove-value.new.self c.loop-r.self-inside.rings c.loop-r.self-inside.issued (invariant_of-self g c)
