use Rattle.std.proofs.Common.{◌<◌, ℕ, ◌*◌, refl, sym, subst, arith}
use Rattle.std.specs.FinSet as set
use Rattle.closure_flow.specs.Views.{shown_in}
use Rattle.closure_flow.proofs.Networks.{words_fit}
use Rattle.closure_flow.proofs.Queues.{fewer}
use Rattle.closure_flow.proofs.TightSets.{Seeking, few_fit, seeking_start, seeking_step, seeking_end, seeking_one, steps_left}
use Rattle.closure_flow.proofs.tight_sets.fewest.Goals as goal

pub loop-place-init : goal.loop-place-init
loop-place-init g c =
    (seeking_start (64 * g.row.W) _ _ (shown_in c.args.network.now) c.requires.below c.requires.some c.requires.allowed, omega arith, refl, omega arith)

pub loop-place-preserved : goal.loop-place-preserved
loop-place-preserved g c =
    let n : ℕ = 64 * g.row.W in
    let d = c.draw-found.ensures in
    let e = c.smaller-best.ensures in
    let m = c.in-Some.ensures.least.member in (
      subst (λ s. Seeking n c.args.parents.now c.args.within.now (shown_in c.args.network.now) c.smaller-best.result s) (sym c.remove.ensures)
          (seeking_step n _ _ (shown_in c.args.network.now) c.requires.below _ c.smaller-best.result c.loop-place.left c.minus-past.result c.draw-found.result
          c.in-Some.place c.loop-place.invariant.0 m c.minus-past.ensures d.drawn d.holds d.least e.one e.first e.second),
      (let before = c.loop-place.invariant.1 in omega (arith, before, d.steps)),
      (let before = c.loop-place.invariant.2 in omega (arith, before, d.counted)),
      steps_left (set.len c.args.within.now) c.args.steps.now _ _ (set.len c.loop-place.left) _ c.loop-place.invariant.3
          (subst (λ s. set.len s < set.len c.loop-place.left) (sym c.remove.ensures) (fewer c.loop-place.left c.in-Some.place m)) d.steps_most,
    )

pub smaller-best-requires : goal.smaller-best-requires
smaller-best-requires g c = (
  words_fit g.row.W _ _ _ c.args.network.now.sized,
  few_fit g.row.W _ _ _ c.loop-place.best c.args.network.now.sized
      (λ q h. c.requires.below q (c.loop-place.invariant.0.drawn.inside q h)),
)

pub loop-place-smaller : goal.loop-place-smaller
loop-place-smaller g c = rw c.remove.ensures (fewer _ _ c.in-Some.ensures.least.member)

pub returns-clause-fewest : goal.returns-clause-fewest
returns-clause-fewest g c =
    seeking_end (64 * g.row.W) _ _ (shown_in c.args.network.now) c.requires.below _ _ c.loop-place.invariant.0 c.in_default.ensures.least

pub returns-then-count-eq1-clause-fewest : goal.returns-then-count-eq1-clause-fewest
returns-then-count-eq1-clause-fewest g c =
    seeking_one (64 * g.row.W) _ _ (shown_in c.args.network.now) c.requires.below _ _ c.loop-place.invariant.0
    (omega (arith, c.count.ensures.exact, c.if-count-eq1.true))
