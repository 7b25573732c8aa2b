use Rattle.std.proofs.Common.{arith, sym, subst, ◌∙◌}
use Rattle.std.proofs.lemmas.Result.{err_from_is_err_and}
use Rattle.graphs.proofs.BestLemmas.{certified_optimal}
use Rattle.graphs.specs.Certificates.{HasOrder, HasFlows, graph_of, rate_in}
use Rattle.graphs.specs.Linearizations.{IsOptimal}
use Rattle.certificate.specs.declared.fault.CheckFault.TheVariants as faults
use Rattle.certificate.specs.Accounts.{IsEdge}
use Rattle.certificate.specs.Parts.{parts_of}
use Rattle.certificate.proofs.FallingLemmas.{sums_part, are_rates}
use Rattle.certificate.proofs.GraphLemmas.{limits_part}
use Rattle.certificate.proofs.OrderLemmas.{order_part}
use Rattle.certificate.proofs.Whole.{filled_at, payable, flows_linked, ids_same, is_certificate, says_not, same_err, has_sizes}
use Rattle.certificate.proofs.checker.check_lists.Goals as goal

pub is_falling-requires-clause-members : goal.is_falling-requires-clause-members
is_falling-requires-clause-members c id here = ((order_part c.args.txs.now _ c.args.parts.now c.in_ok-check_order.ensures.yes).members id).0 here

pub is_falling-requires-clause-filled : goal.is_falling-requires-clause-filled
is_falling-requires-clause-filled c = filled_at c.args.parts.now c.requires

pub check_flows-requires-clause-members : goal.check_flows-requires-clause-members
check_flows-requires-clause-members c id here = ((order_part c.args.txs.now _ c.args.parts.now c.in_ok-check_order.ensures.yes).members id).0 here

pub check_flows-requires-clause-rates : goal.check_flows-requires-clause-rates
check_flows-requires-clause-rates c =
    let limits = limits_part c.args.txs.now c.args.edges.now c.in_ok-tables.ensures.yes in
    let few = limits.few in
    let size = c.in_ok-check_order.ensures.few in
    are_rates c.args.txs.now _ c.args.parts.now c.in_ok-tables.ensures.tables.places limits
    (λ id here. ((order_part c.args.txs.now _ c.args.parts.now c.in_ok-check_order.ensures.yes).members id).0 here)
    (omega arith) (filled_at c.args.parts.now c.requires)
    (sums_part c.args.txs.now c.args.parts.now c.if-not-is_falling.ensures)

pub check_flows-requires-clause-summed : goal.check_flows-requires-clause-summed
check_flows-requires-clause-summed c = sums_part c.args.txs.now c.args.parts.now c.if-not-is_falling.ensures

pub check_flows-requires-clause-payable : goal.check_flows-requires-clause-payable
check_flows-requires-clause-payable c = payable c.args.parts.now c.requires

pub returns-in_err-check_flows-clause-flow : goal.returns-in_err-check_flows-clause-flow
returns-in_err-check_flows-clause-flow c e =
    let t = c.in_ok-tables.ensures.tables in
    let order = subst (λ l. HasOrder (graph_of c.args.txs.now l) (parts_of c.args.parts.now)) (sym t.pairs.same) c.in_ok-check_order.ensures.yes in
    let p = err_from_is_err_and c.from_residual-in_err-check_flows.result c.from_residual-in_err-check_flows.ensures.1 in
    let fault = sym p.2 ∙ sym (same_err _ _ _ e p.1) in (
      c.in_ok-tables.ensures.yes,
      order,
      c.if-not-is_falling.ensures,
      λ h. says_not faults.Flow c.in_err-check_flows.field-0.0
          (HasFlows (rate_in c.args.txs.now) (IsEdge c.in_ok-tables.tables) (parts_of c.args.parts.now)) fault (λ m. cc) c.in_err-check_flows.ensures
          (flows_linked _ _ _ (parts_of c.args.parts.now) (λ a b there. (t.set (a, b)).1 there) h),
    )

pub returns-clause-yes : goal.returns-clause-yes
returns-clause-yes c =
    let t = c.in_ok-tables.ensures.tables in
    let order = subst (λ l. HasOrder (graph_of c.args.txs.now l) (parts_of c.args.parts.now)) (sym t.pairs.same) c.in_ok-check_order.ensures.yes in (
      c.in_ok-tables.ensures.yes,
      order,
      c.if-not-is_falling.ensures,
      flows_linked _ _ _ (parts_of c.args.parts.now) (λ a b there. (t.set (a, b)).0 there) c.in_ok-check_flows.ensures,
    )

pub returns-clause-optimal : goal.returns-clause-optimal
returns-clause-optimal c =
    let t = c.in_ok-tables.ensures.tables in
    let order = subst (λ l. HasOrder (graph_of c.args.txs.now l) (parts_of c.args.parts.now)) (sym t.pairs.same) c.in_ok-check_order.ensures.yes in
    let flows = flows_linked _ _ _ (parts_of c.args.parts.now) (λ a b there. (t.set (a, b)).0 there) c.in_ok-check_flows.ensures in
    let certificate = is_certificate c.args.txs.now c.args.edges.now c.args.parts.now c.requires order c.if-not-is_falling.ensures flows in
    let sizes = has_sizes c.args.txs.now _ t.places (limits_part c.args.txs.now c.args.edges.now c.in_ok-tables.ensures.yes) in
    subst (λ l. IsOptimal (rate_in c.args.txs.now) (graph_of c.args.txs.now c.args.edges.now) l)
    (ids_same c.args.parts.now) (certified_optimal _ _ _ _ sizes (λ parent child pair. pair) certificate)
