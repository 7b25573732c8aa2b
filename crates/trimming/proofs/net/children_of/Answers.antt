use Rattle.std.proofs.Common.{◌∙◌, ℕ, List, sym, subst, arith}
use Rattle.std.specs.Prelude.{Contains}
use Rattle.std.proofs.lemmas.List.{take_all}
use Rattle.lists.proofs.Entries.{none_in_empty}
use Rattle.trimming.proofs.Listing.{steps_more}
use Rattle.trimming.proofs.net.children_of.Goals as goal

pub loop-step-init : goal.loop-step-init
loop-step-init c = record {
  sized = c.in_ok-children.ensures.sized;
  exact = λ a b. ((λ has. absurd (c.in_ok-children.ensures.empty _ _ has)), (λ none. absurd (none_in_empty {X = ℕ × ℕ} (a, b) none)));
}

pub loop-step-preserved : goal.loop-step-preserved
loop-step-preserved c =
    let put = c.in_ok-put.ensures in
    record {
      sized = put.sized ∙ c.loop-step.invariant.sized;
      exact = λ a b. steps_more c.loop-step.children.items c.put.new.lists.items c.args.steps.now c.loop-step.step-index
          (λ (p : ℕ × ℕ). p.0) (λ (p : ℕ × ℕ). p.1) c.loop-step-test.true put
          (λ p q one two i. (one i, two i))
          (λ p. c.loop-step.invariant.exact p.0 p.1) (a, b);
    }

pub returns-clause-exact : goal.returns-clause-exact
returns-clause-exact c a b =
    let all = take_all c.loop-step.step-index c.args.steps.now (omega arith) in
    let exact = c.loop-step.invariant.exact a b in
    ((λ has. subst (λ (l : List (ℕ × ℕ)). Contains l (a, b)) all (exact.0 has)), (λ here. exact.1 (subst (λ (l : List (ℕ × ℕ)). Contains l (a, b)) (sym all) here)))
