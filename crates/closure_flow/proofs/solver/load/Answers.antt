use Rattle.std.proofs.Common.{◌≡◌, ℕ, ◌*◌, ◌<◌, ◌∙◌, ap, arith, rules, SFits}
use Rattle.std.proofs.lemmas.Int.{to_z-of_z}
use Rattle.std.specs.Int.{w128}
use Rattle.std.specs.FinSet as set
use Rattle.std.specs.Ordering.{nat_cmp}
use Rattle.lists.proofs.Keys.{set_drop}
use Rattle.closure_flow.specs.Closures.{weight_at}
use Rattle.closure_flow.proofs.Queues.{fewer}
use Rattle.closure_flow.proofs.Loads.{loads_none, loads_step, loads_all, loads_whole}
use Rattle.closure_flow.proofs.solver.load.Goals as goal

pub loop-place-init : goal.loop-place-init
loop-place-init g c = record { loads = loads_none _ _ _ _ _ c.clear.ensures; steps = omega arith }

pub loop-place-smaller : goal.loop-place-smaller
loop-place-smaller g c = rw c.remove.ensures (fewer _ _ c.in-Some.ensures.least.member)

pub loop-place-preserved : goal.loop-place-preserved
loop-place-preserved g c =
    let n : ℕ = 64 * g.row.W in
    let i = c.loop-place.invariant in
    let here = c.in-Some.ensures.least.member in
    let below : c.in-Some.place < n = c.in-Some.ensures.within _ here in
    let fine : SFits w128 (weight_at c.args.weights.now c.in-Some.place) = search rules in
    record {
      loads =
          rw (c.remove.ensures, c.begin.ensures.within, c.begin.ensures.into, c.begin.ensures.rest)
          (loads_step n _ _ _ _ _ c.loop-place.network.amounts.items _ c.in-Some.place _ c.loop-place.network.sized here below
          (to_z-of_z w128 (weight_at c.args.weights.now c.in-Some.place) fine) i.loads);
      steps = omega (arith, i.steps, c.tick.ensures, ap (λ s. set.len s) c.remove.ensures, set_drop _ c.in-Some.place here);
    }

pub returns-clause-within : goal.returns-clause-within
returns-clause-within g c = loads_whole _ _ _ _ _ _ c.in_default.ensures.least c.loop-place.invariant.loads

pub returns-clause-none : goal.returns-clause-none
returns-clause-none g c d p m =
    (loads_all (64 * g.row.W) _ _ _ _ _ c.loop-place.network.amounts.items _ c.in_default.ensures.least c.loop-place.invariant.loads p m).1 d

pub returns-clause-rest : goal.returns-clause-rest
returns-clause-rest g c p m =
    (loads_all (64 * g.row.W) _ _ _ _ _ c.loop-place.network.amounts.items _ c.in_default.ensures.least c.loop-place.invariant.loads p m).0

pub returns-clause-steps : goal.returns-clause-steps
returns-clause-steps g c =
    let none : set.len c.loop-place.left ≡ 0 = ap (λ s. set.len s) c.in_default.ensures.least ∙ set.len-empty nat_cmp in
    omega (arith, c.loop-place.invariant.steps, none)
