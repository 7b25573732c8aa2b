use Rattle.std.proofs.Common.{◌≡◌, ℕ, ◌*◌, ◌<◌, ◌∙◌, refl, sym, ap, subst, true, length}
use Rattle.std.specs.FinSet as set
use Rattle.bitset.specs.Members.{from_meet, remove_here}
use Rattle.closure_flow.specs.Closures.{weight_at}
use Rattle.closure_flow.specs.Networks.{Arranges, IsFirst, sent}
use Rattle.closure_flow.proofs.Firsts.{arranges_more, arranges_none, first_improves, first_start, first_turn}
use Rattle.closure_flow.proofs.Networks.{network_fits, words_fit}
use Rattle.closure_flow.proofs.Queues.{fewer}
use Rattle.closure_flow.proofs.first.first_flow.Goals as goal

pub loop-place-init : goal.loop-place-init
loop-place-init g c =
    let n : ℕ = 64 * g.row.W in
    record {
      arranges = arranges_none n _ _ _ _ _ (first_start n _ _ _ _ c.args.network.now.inside c.requires.none c.requires.small);
      within = refl;
    }

pub settle-requires : goal.settle-requires
settle-requires g c =
    let n : ℕ = 64 * g.row.W in
    let i = c.loop-place.invariant in
    let net = c.loop-place.network in
    let place = c.in-Some.place in
    let w = sym i.within in
    let both = from_meet _ _ place (subst (λ s. set.contains s place ≡ true) c.meet.ensures c.in-Some.ensures.there) in
    let first : IsFirst n c.args.parents.now c.args.network.now.within c.remove.new.self (sent n net.into.items net.amounts.items) (weight_at net.rest.items) =
    subst (λ s. IsFirst n c.args.parents.now c.args.network.now.within s (sent n net.into.items net.amounts.items) (weight_at net.rest.items))
    (sym c.remove.ensures) (first_turn n _ _ _ _ _ place i.arranges.first) in (
      network_fits g.row.W _ _ _ net.sized,
      (
        words_fit g.row.W _ _ _ net.sized,
        (
          subst (λ s. (t : ℕ) → set.contains s t ≡ true → t < length c.args.parents.now) w c.requires.parents,
          (
            (net.over_is.sound place both.1).0,
            (
              ap (λ s. set.contains s place) c.remove.ensures ∙ remove_here _ place,
              (
                (net.over_is.sound place both.1).1,
                subst (λ s. IsFirst n c.args.parents.now s c.remove.new.self (sent n net.into.items net.amounts.items) (weight_at net.rest.items)) w first,
              ),
            ),
          ),
        ),
      ),
    )

pub loop-place-smaller : goal.loop-place-smaller
loop-place-smaller g c =
    rw c.remove.ensures
    (fewer _ _ (from_meet _ _ c.in-Some.place (subst (λ s. set.contains s c.in-Some.place ≡ true) c.meet.ensures c.in-Some.ensures.there)).0)

pub loop-place-preserved : goal.loop-place-preserved
loop-place-preserved g c =
    let n : ℕ = 64 * g.row.W in
    let i = c.loop-place.invariant in
    let net = c.loop-place.network in
    let new = c.settle.new.network in
    record {
      arranges =
          arranges_more n _ _ _ _ _ _ _ _ _ _ i.arranges
          (subst (λ s. Arranges n c.args.parents.now s c.remove.new.self (sent n net.into.items net.amounts.items) (weight_at net.rest.items)
          (sent n new.into.items new.amounts.items) (weight_at new.rest.items)) i.within c.settle.ensures.arranges);
      within = c.settle.ensures.within ∙ i.within;
    }

pub returns-clause-improves : goal.returns-clause-improves
returns-clause-improves g c = first_improves (64 * g.row.W) _ _ _ _ _ _ _ c.loop-place.invariant.arranges
