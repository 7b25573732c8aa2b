use Rattle.std.proofs.Common.{◌≡◌, List, Option, None, IsSome, get_or, refl, sym, subst, ◌∙◌, arith}
use Rattle.node_pool.specs.declared.pool.Key.{Key}
use Rattle.node_pool.specs.declared.pool.Node.{Node}
use Rattle.node_pool.specs.Nodes.{Nodes, numbered, IsLive}
use Rattle.node_pool.specs.Laws.{RingsGoRound}
use Rattle.node_pool.proofs.RingLemmas.{SameRings-trans}
use Rattle.node_pool.proofs.OrderLemmas.{SameOrder-trans}
use Rattle.node_pool.proofs.RoundLemmas.{rings-round}
use Rattle.node_pool.proofs.pool.Pool.reserve.Goals as goal

live-kept : {T : Type 0} (old new : Nodes T) → new.slots ≡ old.slots → (key : Key) → IsLive old key → IsLive new key
live-kept {T} old new same key live = subst (λ (u : List (Option (Node T))). IsSome (numbered key.number (get_or u key.slot None))) (sym same) live

pub loop-self-init : goal.loop-self-init
loop-self-init g c = (
  refl,
  refl,
  omega arith,
  λ r below x y. (λ ring. ring, λ ring. ring),
  λ r below key live. refl,
  subst (RingsGoRound g.row.R) c.self.view_is (rings-round g.row.R c.self.inside.nodes c.self.inside.rings c.self.inside.issued c.self.invariant),
)

pub loop-self-preserved : goal.loop-self-preserved
loop-self-preserved g c =
    let kept = c.loop-self.invariant in (
      c.grow.ensures.values ∙ kept.0,
      c.grow.ensures.issued ∙ kept.1,
      omega (arith, c.grow.ensures.kept, kept.2),
      λ r below. SameRings-trans _ _ _ r (kept.3 r below) (c.grow.ensures.rings r below),
      λ r below. SameOrder-trans c.args.self.now c.loop-self.self c.grow.new.self r (live-kept c.args.self.now c.loop-self.self kept.0)
          (kept.4 r below) (c.grow.ensures.order r below),
      c.grow.ensures.round,
    )

pub returns-in_err-grow-clause-rings : goal.returns-in_err-grow-clause-rings
returns-in_err-grow-clause-rings g c r below = SameRings-trans _ _ _ r (c.loop-self.invariant.3 r below) (c.grow.ensures.rings r below)

pub returns-in_err-grow-clause-order : goal.returns-in_err-grow-clause-order
returns-in_err-grow-clause-order g c r below =
    SameOrder-trans c.args.self.now c.loop-self.self c.grow.new.self r (live-kept c.args.self.now c.loop-self.self c.loop-self.invariant.0)
    (c.loop-self.invariant.4 r below) (c.grow.ensures.order r below)

pub returns-then-n-spare-clause-round : goal.returns-then-n-spare-clause-round
returns-then-n-spare-clause-round g c =
    subst (RingsGoRound g.row.R) c.self.view_is (rings-round g.row.R c.self.inside.nodes c.self.inside.rings c.self.inside.issued c.self.invariant)

pub returns-then-n-len-clause-round : goal.returns-then-n-len-clause-round
returns-then-n-len-clause-round g c =
    subst (RingsGoRound g.row.R) c.self.view_is (rings-round g.row.R c.self.inside.nodes c.self.inside.rings c.self.inside.issued c.self.invariant)

pub returns-clause-round : goal.returns-clause-round
returns-clause-round g c = c.loop-self.invariant.5
