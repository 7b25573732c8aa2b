use Rattle.std.proofs.Common.{rules, ◌≡◌, ◌<◌, ◌*◌, ◌∙◌, ℕ, ap, sym, subst, arith, lit<, true}
use Rattle.std.specs.FinSet as fin
use Rattle.bitset.specs.Places.{IsWithin}
use Rattle.closure_flow.specs.Closures.{weight_at}
use Rattle.graphs.specs.Certificates.{weight_in}
use Rattle.linearize.specs.Graphs.{sum_at}
use Rattle.linearize.specs.Orders.{sums_in}
use Rattle.linearize.specs.Splits.{AddsOne}
use Rattle.linearize.proofs.Cuts.{best_of, weights_even, weights_small}
use Rattle.linearize.proofs.Solves.{nothing_taken, of_one}
use Rattle.linearize.proofs.Sizes.{words_fit, scratch_fits, answer_fits}
use Rattle.linearize.proofs.split.best.Goals as goal

pub solve-requires : goal.solve-requires
solve-requires g c =
    let n : ℕ = 64 * g.row.W in
    let within : IsWithin n c.args.within.now = λ k m. c.requires.ready.closed.within k (c.requires.ready.members k m) in
    let are : (t : ℕ) → fin.contains c.args.within.now t ≡ true
    → weight_at c.weigh.new.weights t ≡ weight_in (sums_in n c.args.dep.now c.args.within.now) (sum_at c.args.dep.now t) = λ t m.
    c.weigh.ensures.are t m ∙ ap (λ w. weight_in w (sum_at c.args.dep.now t)) c.sum-whole.ensures.is in (
      scratch_fits g.row.W c.requires.narrow,
      (
        words_fit g.row.W c.requires.narrow,
        (
          answer_fits g.row.W c.requires.narrow,
          (
            λ t m. (let low : t < n = within t m in let room = c.requires.weights in omega (arith, low, room, c.weigh.auto.weights)),
            (
              c.requires.ready.covers.there,
              (
                weights_even n c.args.dep.now c.args.parents.now c.weigh.new.weights c.args.within.now are,
                weights_small n c.weigh.new.weights c.args.within.now within c.requires.ready.few c.weigh.ensures.small,
              ),
            ),
          ),
        ),
      ),
    )

pub finish-requires : goal.finish-requires
finish-requires g c =
    let n : ℕ = 64 * g.row.W in
    let are : (t : ℕ) → fin.contains c.args.within.now t ≡ true
    → weight_at c.weigh.new.weights t ≡ weight_in (sums_in n c.args.dep.now c.args.within.now) (sum_at c.args.dep.now t) = λ t m.
    c.weigh.ensures.are t m ∙ ap (λ w. weight_in w (sum_at c.args.dep.now t)) c.sum-whole.ensures.is in (
      scratch_fits g.row.W c.requires.narrow,
      (
        search rules,
        (
          words_fit g.row.W c.requires.narrow,
          (
            lit< tt,
            (
              c.requires.narrow,
              (
                c.requires.ready,
                (
                  c.sum-whole.ensures.is,
                  record { weights = c.weigh.new.weights; are = are; none = c.in-Balanced.ensures.none; balanced = c.in-Balanced.ensures.flow },
                ),
              ),
            ),
          ),
        ),
      ),
    )

pub returns-in-Better-clause-cut : goal.returns-in-Better-clause-cut
returns-in-Better-clause-cut g c =
    best_of (64 * g.row.W) c.args.dep.now c.args.parents.now c.weigh.new.weights c.args.within.now
    (λ t m. c.weigh.ensures.are t m ∙ ap (λ w. weight_in w (sum_at c.args.dep.now t)) c.sum-whole.ensures.is)
    c.requires.ready.covers c.in-Better.first
    c.in-Better.ensures.closed c.in-Better.ensures.positive c.in-Better.ensures.greatest

pub returns-in-Better-clause-solve : goal.returns-in-Better-clause-solve
returns-in-Better-clause-solve g c =
    of_one _ _ _ _ _ _ _ c.in-Better.ensures.steps_least c.in-Better.ensures.steps (nothing_taken _ _ _)

pub returns-in-Balanced-clause-solve : goal.returns-in-Balanced-clause-solve
returns-in-Balanced-clause-solve g c =
    of_one _ _ _ _ _ _ _ c.in-Balanced.ensures.steps_least c.in-Balanced.ensures.steps c.finish.ensures.steps

pub returns-then-count-eq1-clause-solve : goal.returns-then-count-eq1-clause-solve
returns-then-count-eq1-clause-solve g c =
    let few = c.requires.ready.few in
    let one : fin.len c.args.within.now ≡ 1 = omega (arith, few, c.count.ensures.exact, c.if-count-eq1.true) in
    of_one (fin.len c.args.within.now) c.args.scratch.now c.args.scratch.now c.args.scratch.now c.args.steps.now c.alone.new.steps c.alone.new.steps
    (omega (arith, one, c.alone.ensures.step))
    (record {
      gave = omega arith;
      counted = omega (arith, one, c.alone.ensures.step);
      few = omega (arith, c.alone.ensures.step);
    })
    (nothing_taken _ _ _)

pub returns-then-count-eq1-clause-one : goal.returns-then-count-eq1-clause-one
returns-then-count-eq1-clause-one g c =
    let few = c.requires.ready.few in
    let one : fin.len c.args.within.now ≡ 1 = omega (arith, few, c.count.ensures.exact, c.if-count-eq1.true) in
    subst (λ (n : ℕ). AddsOne n c.args.draft.now c.alone.new.draft) (sym one) c.alone.ensures.one
