use Rattle.std.proofs.Common.{◌≡◌, ◌*◌, ℕ, List, length, sym, subst, refl}
use Rattle.std.proofs.lemmas.Result.{IfOk-from_err}
use Rattle.cluster.specs.Guesses.{AreSound}
use Rattle.cluster.specs.Kept.{IsOrdered, cut}
use Rattle.cluster.specs.Named.{IsNamed}
use Rattle.cluster.specs.Steps.{GrowsWithin, most_steps}
use Rattle.cluster.proofs.Kept.{IsCluster-named}
use Rattle.cluster.proofs.making.certified.Goals as goal

pub ordered-requires : goal.ordered-requires
ordered-requires g c = (
  search,
  (
    search,
    (
      subst (λ (xs : List ℕ). IsNamed (64 * g.row.W) xs c.args.dep) (sym c.as_slice.ensures) c.requires.named,
      subst (λ (xs : List ℕ). AreSound xs c.args.dep c.args.guess.now.parts.items c.args.guess.now.places.items c.args.guess.now.flows.items)
          (sym c.as_slice.ensures) c.requires.known,
    ),
  ),
)

pub returns-in_err-order-clause-names : goal.returns-in_err-order-clause-names
returns-in_err-order-clause-names g c = IfOk-from_err c.from_residual.result _ c.from_residual.ensures.0

pub returns-in_err-order-clause-graph : goal.returns-in_err-order-clause-graph
returns-in_err-order-clause-graph g c = IfOk-from_err c.from_residual.result _ c.from_residual.ensures.0

pub returns-in_err-order-clause-whole : goal.returns-in_err-order-clause-whole
returns-in_err-order-clause-whole g c = IfOk-from_err c.from_residual.result _ c.from_residual.ensures.0

pub returns-in_err-order-clause-steps : goal.returns-in_err-order-clause-steps
returns-in_err-order-clause-steps g c =
    subst (λ (xs : List ℕ). GrowsWithin (most_steps (length xs)) c.args.steps.now c.ordered.new.steps) c.as_slice.ensures c.ordered.ensures.steps

pub returns-in_err-order-clause-alone : goal.returns-in_err-order-clause-alone
returns-in_err-order-clause-alone g c =
    subst (λ (xs : List ℕ). length xs ≡ 1 → c.ordered.new.steps ≡ c.args.steps.now) c.as_slice.ensures c.ordered.ensures.alone

pub returns-clause-whole : goal.returns-clause-whole
returns-clause-whole g c =
    let order : IsOrdered c.args.names.items c.args.dep c.in_ok-order.order.parts.items c.in_ok-order.order.names.items c.in_ok-order.order.flows.items =
    subst (λ (xs : List ℕ). IsOrdered xs c.args.dep c.in_ok-order.order.parts.items c.in_ok-order.order.names.items c.in_ok-order.order.flows.items)
    c.as_slice.ensures c.in_ok-order.ensures.order in
    IsCluster-named (64 * g.row.W) c.args.names.items c.args.dep c.requires.named
    (cut c.in_ok-order.order.parts.items c.in_ok-order.order.names.items c.in_ok-order.order.flows.items) order.picked order.uncut

pub returns-clause-steps : goal.returns-clause-steps
returns-clause-steps g c =
    subst (λ (xs : List ℕ). GrowsWithin (most_steps (length xs)) c.args.steps.now c.ordered.new.steps) c.as_slice.ensures c.ordered.ensures.steps

pub returns-clause-alone : goal.returns-clause-alone
returns-clause-alone g c = subst (λ (xs : List ℕ). length xs ≡ 1 → c.ordered.new.steps ≡ c.args.steps.now) c.as_slice.ensures c.ordered.ensures.alone

pub invariant_of-result : goal.invariant_of-result
invariant_of-result g c = record {
  place = c.requires.named;
  ordered =
      subst (λ (xs : List ℕ). IsOrdered xs c.args.dep c.in_ok-order.order.parts.items c.in_ok-order.order.names.items c.in_ok-order.order.flows.items)
      c.as_slice.ensures c.in_ok-order.ensures.order;
}

pub returns-clause-names : goal.returns-clause-names
returns-clause-names g c = refl

pub returns-clause-graph : goal.returns-clause-graph
returns-clause-graph g c = refl
