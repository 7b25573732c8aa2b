use Rattle.std.proofs.Common.{sym, ◌∙◌, ap, set, ℕ, ◌*◌, subst}
use Rattle.closure_flow.specs.Networks.{sent, IsLean}
use Rattle.closure_flow.proofs.Networks.{writes_read, sent-here, sent-others, lean_set, sized_set}
use Rattle.closure_flow.proofs.network.Network.set_sent.Goals as goal

pub invariant_of-self : goal.invariant_of-self
invariant_of-self g c =
    let n : ℕ = 64 * g.row.W in
    let m = c.marked-senders.ensures in
    record {
      sized = sized_set n _ _ _ c.args.parent _ c.args.amount _ c.args.self.now.sized;
      lean =
          subst (λ (i : ℕ). IsLean n (set c.args.self.now.into.items c.args.parent c.marked-senders.result)
          (set c.args.self.now.amounts.items i c.args.amount)) (sym c.place_of-at.ensures.at)
          (lean_set n _ _ c.args.self.now.rest.items c.args.child c.args.parent c.args.amount _ c.args.self.now.sized c.args.self.now.lean
          (writes_read n _ _ _ _ _ _ _ _ c.args.self.now.sized c.requires.child c.requires.parent c.index.ensures m.other m.none m.some));
      inside = c.args.self.now.inside;
      over_is = c.args.self.now.over_is;
      short_is = c.args.self.now.short_is;
    }

pub returns-clause-here : goal.returns-clause-here
returns-clause-here g c =
    let n : ℕ = 64 * g.row.W in
    let m = c.marked-senders.ensures in
    ap (λ (i : ℕ). sent n (set c.args.self.now.into.items c.args.parent c.marked-senders.result) (set c.args.self.now.amounts.items i c.args.amount)
    c.args.child c.args.parent) c.place_of-at.ensures.at
    ∙ sent-here n _ _ c.args.self.now.rest.items c.args.child c.args.parent c.args.amount _ c.args.self.now.sized
    (writes_read n _ _ _ _ _ _ _ _ c.args.self.now.sized c.requires.child c.requires.parent c.index.ensures m.other m.none m.some)

pub returns-clause-others : goal.returns-clause-others
returns-clause-others g c d p hd hp apart =
    let n : ℕ = 64 * g.row.W in
    let m = c.marked-senders.ensures in
    ap (λ (i : ℕ). sent n (set c.args.self.now.into.items c.args.parent c.marked-senders.result) (set c.args.self.now.amounts.items i c.args.amount)
    d p) c.place_of-at.ensures.at
    ∙ sent-others n _ _ c.args.self.now.rest.items c.args.child c.args.parent c.args.amount _ c.args.self.now.sized
    (writes_read n _ _ _ _ _ _ _ _ c.args.self.now.sized c.requires.child c.requires.parent c.index.ensures m.other m.none m.some)
    d p hd hp apart
