use Rattle.std.proofs.Common.{◌≡◌, ℕ, ◌*◌, ◌<◌, ◌∙◌, sym, ap, subst, true, arith, pos, length, int_lt}
use Rattle.std.specs.FinSet as set
use Rattle.closure_flow.specs.Bounds.{most_searched}
use Rattle.closure_flow.specs.Closures.{IsBalanced, weight_at}
use Rattle.closure_flow.specs.Scratches.{Room}
use Rattle.closure_flow.proofs.Networks.{network_fits, shown_only, shown_within, words_fit}
use Rattle.closure_flow.proofs.Optimum.{balanced_flow, count_within, counted_some, greatest_where_sealed}
use Rattle.closure_flow.proofs.Optimum.{none_is_empty, none_where_sealed, nothing_over, positive_where_some, run_of}
use Rattle.closure_flow.proofs.Optimum.{small_start, some_is_least}
use Rattle.closure_flow.proofs.Powers.{below_fourth}
use Rattle.closure_flow.proofs.Shown.{shown_is}
use Rattle.closure_flow.proofs.solver.solve.Goals as goal

pub first_flow-requires : goal.first_flow-requires
first_flow-requires g c =
    let n : ℕ = 64 * g.row.W in
    let e = c.load.ensures in
    let w = sym e.within in (
      network_fits g.row.W _ _ _ c.scratch.inside.network.sized,
      (
        words_fit g.row.W _ _ _ c.scratch.inside.network.sized,
        (
          subst (λ s. (t : ℕ) → set.contains s t ≡ true → t < length c.args.parents.now) w c.requires.parents,
          (
            λ d p m. e.none d p (ap (λ s. set.contains s p) (sym e.within) ∙ m),
            small_start n (weight_at c.args.weights.now) c.args.within c.load.new.network.within (weight_at c.load.new.network.rest.items)
                e.within e.rest c.requires.small,
          ),
        ),
      ),
    )

pub returns-clause-positive : goal.returns-clause-positive
returns-clause-positive g c =
    let n : ℕ = 64 * g.row.W in
    let run = run_of n c.args.weights.now c.args.parents.now c.args.within _ _ _ _ _ _ _ _ _ c.complete-reached.result c.load.new.network.inside
    c.load.ensures.within c.first_flow.ensures.within c.complete-reached.ensures.within c.load.ensures.rest c.load.ensures.none
    c.first_flow.ensures.improves c.complete-reached.ensures.improves c.complete-reached.ensures.sealed in
    let first = some_is_least c.least.result c.is_none.result c.complete-reached.result c.is_none.ensures c.if-is_none.false c.least.ensures.least in
    positive_where_some n _ _ _ _ _ _ first.0 run.ends run.sealed first.1

pub returns-clause-greatest : goal.returns-clause-greatest
returns-clause-greatest g c =
    let n : ℕ = 64 * g.row.W in
    let run = run_of n c.args.weights.now c.args.parents.now c.args.within _ _ _ _ _ _ _ _ _ c.complete-reached.result c.load.new.network.inside
    c.load.ensures.within c.first_flow.ensures.within c.complete-reached.ensures.within c.load.ensures.rest c.load.ensures.none
    c.first_flow.ensures.improves c.complete-reached.ensures.improves c.complete-reached.ensures.sealed in
    greatest_where_sealed n _ _ _ _ _ _ run.ends run.sealed

pub returns-clause-steps_better : goal.returns-clause-steps_better
returns-clause-steps_better g c =
    let n : ℕ = 64 * g.row.W in
    let run = run_of n c.args.weights.now c.args.parents.now c.args.within _ _ _ _ _ _ _ _ _ c.complete-reached.result c.load.new.network.inside
    c.load.ensures.within c.first_flow.ensures.within c.complete-reached.ensures.within c.load.ensures.rest c.load.ensures.none
    c.first_flow.ensures.improves c.complete-reached.ensures.improves c.complete-reached.ensures.sealed in
    let first = some_is_least c.least.result c.is_none.result c.complete-reached.result c.is_none.ensures c.if-is_none.false c.least.ensures.least in
    omega (arith, counted_some c.args.within first.0 (run.sealed.inside first.0 first.1), c.load.ensures.steps, c.complete-reached.ensures.steps)

pub returns-then-is_none-clause-none : goal.returns-then-is_none-clause-none
returns-then-is_none-clause-none g c =
    let n : ℕ = 64 * g.row.W in
    let run = run_of n c.args.weights.now c.args.parents.now c.args.within _ _ _ _ _ _ _ _ _ c.complete-reached.result c.load.new.network.inside
    c.load.ensures.within c.first_flow.ensures.within c.complete-reached.ensures.within c.load.ensures.rest c.load.ensures.none
    c.first_flow.ensures.improves c.complete-reached.ensures.improves c.complete-reached.ensures.sealed in
    let none = none_is_empty c.least.result c.is_none.result c.complete-reached.result c.is_none.ensures c.if-is_none.true c.least.ensures.least in
    none_where_sealed n _ _ _ _ _ _ run.ends run.sealed none

pub returns-then-is_none-clause-flow : goal.returns-then-is_none-clause-flow
returns-then-is_none-clause-flow g c =
    let n : ℕ = 64 * g.row.W in
    let net = c.complete-reached.new.network in
    let run = run_of n c.args.weights.now c.args.parents.now c.args.within _ _ _ _ _ _ _ _ _ c.complete-reached.result c.load.new.network.inside
    c.load.ensures.within c.first_flow.ensures.within c.complete-reached.ensures.within c.load.ensures.rest c.load.ensures.none
    c.first_flow.ensures.improves c.complete-reached.ensures.improves c.complete-reached.ensures.sealed in
    let none = none_is_empty c.least.result c.is_none.result c.complete-reached.result c.is_none.ensures c.if-is_none.true c.least.ensures.least in
    let w = c.complete-reached.ensures.within ∙ c.first_flow.ensures.within ∙ c.load.ensures.within in
    let is = shown_is n net.within net.into.items net.amounts.items net.lean net.inside in
    subst (λ (f : ℕ → ℕ → ℕ). IsBalanced n c.args.weights.now c.args.parents.now c.args.within f) (λ i d p. sym (is d p) i)
    (balanced_flow n _ _ _ _ _ _ run.ends c.requires.sum (nothing_over n _ _ _ _ _ _ run.ends run.sealed none)
    (λ d p m. shown_within n _ _ _ d p (ap (λ x. set.contains x p) w ∙ m))
    (λ d p f.
    let both = shown_only n _ _ _ d p net.lean net.inside f in
    (both.0, ap (λ x. set.contains x p) (sym w) ∙ both.1)))

pub returns-then-is_none-clause-steps_balanced : goal.returns-then-is_none-clause-steps_balanced
returns-then-is_none-clause-steps_balanced g c =
    let inside = subst (λ s. (t : ℕ) → set.contains s t ≡ true → t < 64 * g.row.W) c.load.ensures.within c.load.new.network.inside in
    omega (
      arith,
      count_within (64 * g.row.W) (λ t. int_lt (weight_at c.args.weights.now t) (pos 0)) c.args.within inside,
      c.load.ensures.steps,
      c.complete-reached.ensures.steps,
    )

pub returns-then-is_none-clause-steps : goal.returns-then-is_none-clause-steps
returns-then-is_none-clause-steps g c =
    let same = ap (λ s. most_searched (set.len s)) (c.first_flow.ensures.within ∙ c.load.ensures.within) in
    let was : c.scratch.inside.queue.given ≡ c.args.scratch.now.given = ap (λ (room : Room). room.given) c.scratch.view_is in
    record {
      gave = omega (arith, was, c.complete-reached.ensures.steps, c.complete-reached.ensures.counted);
      counted = omega (arith, was, c.load.ensures.steps, c.complete-reached.ensures.counted);
      few = omega (arith, c.load.ensures.steps, c.complete-reached.ensures.most, same, below_fourth (set.len c.args.within));
    }

pub returns-clause-steps : goal.returns-clause-steps
returns-clause-steps g c =
    let same = ap (λ s. most_searched (set.len s)) (c.first_flow.ensures.within ∙ c.load.ensures.within) in
    let was : c.scratch.inside.queue.given ≡ c.args.scratch.now.given = ap (λ (room : Room). room.given) c.scratch.view_is in
    record {
      gave = omega (arith, was, c.complete-reached.ensures.steps, c.complete-reached.ensures.counted);
      counted = omega (arith, was, c.load.ensures.steps, c.complete-reached.ensures.counted);
      few = omega (arith, c.load.ensures.steps, c.complete-reached.ensures.most, same, below_fourth (set.len c.args.within));
    }
