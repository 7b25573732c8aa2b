use Rattle.std.proofs.Common.{◌≡◌, ℕ, ◌*◌, ◌∙◌, refl, sym, ap, subst, true, arith}
use Rattle.std.proofs.lemmas.Int.{ints}
use Rattle.std.specs.FinSet as set
use Rattle.bitset.specs.Members.{from_meet, from_remove}
use Rattle.closure_flow.specs.Closures.{weight_at}
use Rattle.closure_flow.specs.Networks.{Arranges, sent}
use Rattle.closure_flow.proofs.Firsts.{arranges_give, arranges_more, arranges_none}
use Rattle.closure_flow.proofs.Networks.{network_fits, read_parents}
use Rattle.closure_flow.proofs.Queues.{fewer}
use Rattle.closure_flow.proofs.first.settle.Goals as goal

pub loop-parent-init : goal.loop-parent-init
loop-parent-init g c =
    let net = c.args.network.now in
    record {
      arranges = arranges_none (64 * g.row.W) _ _ _ _ _ c.requires.first;
      within = refl;
      to = λ t m.
          let both = from_meet _ _ t (subst (λ s. set.contains s t ≡ true) c.meet-to.ensures m) in
          let low = net.short_is.sound t both.1 in
          let over = c.requires.left in (
            low.0,
            read_parents c.args.parents.now c.args.place t _ (c.requires.parents _ c.requires.place) c.index-parents-place.is ∙ both.0,
            λ e. omega (arith, ints, over, low.1, ap (weight_at net.rest.items) e),
          );
    }

pub give-requires : goal.give-requires
give-requires g c =
    let i = c.loop-parent.invariant in
    let w = i.within in
    let parent = i.to c.in-Some.parent c.in-Some.ensures.least.member in (
      network_fits g.row.W _ _ _ c.args.network.now.sized,
      (
        subst (λ s. set.contains s c.args.place ≡ true) (sym w) c.requires.place,
        (
          subst (λ s. set.contains s c.in-Some.parent ≡ true) (sym w) parent.0,
          i.arranges.first.held c.args.place c.in-Some.parent c.requires.place parent.0,
        ),
      ),
    )

pub loop-parent-smaller : goal.loop-parent-smaller
loop-parent-smaller g c = rw c.remove.ensures (fewer _ _ c.in-Some.ensures.least.member)

pub loop-parent-preserved : goal.loop-parent-preserved
loop-parent-preserved g c =
    let n : ℕ = 64 * g.row.W in
    let i = c.loop-parent.invariant in
    let parent = i.to c.in-Some.parent c.in-Some.ensures.least.member in
    record {
      arranges =
          arranges_more n _ _ _ _ _ _ _ _ _ _ i.arranges
          (arranges_give n _ _ _ _ _ _ _ c.args.place c.in-Some.parent c.args.network.now.inside c.requires.place parent.0 parent.1 parent.2
          c.requires.past c.give.ensures.gives i.arranges.first);
      within = c.give.ensures.within ∙ i.within;
      to = λ t m. i.to t (from_remove _ c.in-Some.parent t (subst (λ s. set.contains s t ≡ true) c.remove.ensures m)).1;
    }

pub returns-clause-arranges : goal.returns-clause-arranges
returns-clause-arranges g c =
    let n : ℕ = 64 * g.row.W in
    let i = c.loop-parent.invariant in
    let old = c.loop-parent.network in
    let new = c.hand_on.new.network in
    arranges_more n _ _ _ _ _ _ _ _ _ _ i.arranges
    (subst (λ s. Arranges n c.args.parents.now s c.args.to_come.now (sent n old.into.items old.amounts.items) (weight_at old.rest.items)
    (sent n new.into.items new.amounts.items) (weight_at new.rest.items)) i.within c.hand_on.ensures.arranges)
