use Rattle.std.proofs.Common.{rules, ℕ, ◌*◌, sym, ap, subst, arith}
use Rattle.std.specs.FinSet as set
use Rattle.bitset.specs.Places.{places}
use Rattle.bitset.specs.Sets.{len-places}
use Rattle.closure_flow.specs.Closures.{weight_at}
use Rattle.closure_flow.specs.Networks.{sent}
use Rattle.closure_flow.proofs.Budgets.{Budget, budget_start, budget_step, budget_end}
use Rattle.closure_flow.proofs.solver.complete.Goals as goal

pub loop-at-init : goal.loop-at-init
loop-at-init g c = (
  search rules,
  search rules,
  search rules,
  search rules,
  budget_start _ _ _ _ _ _ _ (sym (len-places (64 * g.row.W) c.args.network.now.within c.args.network.now.inside)),
)

pub loop-at-preserved : goal.loop-at-preserved
loop-at-preserved g c =
    let n : ℕ = 64 * g.row.W in
    let ps = c.args.parents.now in
    let wl = c.loop-at.network.within in
    let w = c.loop-at.invariant.1 in
    let F = sent n c.loop-at.network.into.items c.loop-at.network.amounts.items in
    let G = sent n c.augment.new.network.into.items c.augment.new.network.amounts.items in
    let r = weight_at c.loop-at.network.rest.items in
    let s = weight_at c.augment.new.network.rest.items in
    let es = c.search-reach.new.queue.entries in
    let e = c.search-reach.ensures in
    let at = rw c.in-Some.is at e.position in
    let b : Budget ps wl (places n wl) F r (set.len wl) c.args.steps.now c.loop-at.steps =
    subst (λ x. Budget ps x (places n x) F r (set.len x) c.args.steps.now c.loop-at.steps) (sym w) c.loop-at.invariant.4 in
    let next = budget_step n ps wl F G r s es c.in-Some.at (set.len wl) c.args.steps.now c.loop-at.steps c.search-reach.new.steps e.search
    (omega (arith, at, e.within)) e.few (sym (len-places n wl c.loop-at.network.inside)) (rw c.in-Some.is at e.end) (rw c.in-Some.is at e.shortest)
    c.augment.ensures.spends (omega (arith, e.steps, e.within, e.few)) b in (
      search rules,
      search rules,
      search rules,
      omega (arith, e.steps, e.given, c.loop-at.invariant.3),
      subst (λ x. Budget ps x (places n x) G s (set.len x) c.args.steps.now c.search-reach.new.steps) w next,
    )

pub returns-in_default-clause-most : goal.returns-in_default-clause-most
returns-in_default-clause-most g c =
    let e = c.search-reach.ensures in
    budget_end _ _ _ _ _ _ _ _ _ c.loop-at.invariant.4 (omega (arith, e.steps, e.within, e.few, ap (λ s. set.len s) c.loop-at.invariant.1))

pub returns-in_default-clause-counted : goal.returns-in_default-clause-counted
returns-in_default-clause-counted g c =
    let e = c.search-reach.ensures in
    omega (arith, e.steps, e.given, c.loop-at.invariant.3)
