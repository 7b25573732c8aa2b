use Rattle.std.proofs.Common.{arith, subst, sym, ◌∙◌, inl, inr, nat_eq}
use Rattle.std.proofs.lemmas.Bool.{cases_eq, true≢false}
use Rattle.std.specs.HashMap as hash
use Rattle.graphs.specs.declared.names.Flow.{Flow}
use Rattle.certificate.specs.Accounts.{IsEdge, IsOpen}
use Rattle.certificate.proofs.Bookings.{flow_at, flow_here, flow_of}
use Rattle.certificate.proofs.flows.flows_inside.Goals as goal

pub returns-then-not-contains : goal.returns-then-not-contains
returns-then-not-contains c =
    λ all. let i = all _ (flow_here c.args.flows.now c.loop-flow.flow-index c.loop-flow-test.true) in true≢false
    (sym i.0 ∙ sym c.if-not-contains.ensures)

pub returns-then-not-is_open : goal.returns-then-not-is_open
returns-then-not-is_open c = λ all. c.if-not-is_open.ensures (all _ (flow_here c.args.flows.now c.loop-flow.flow-index c.loop-flow-test.true)).1

pub returns-then-not-is_open-2 : goal.returns-then-not-is_open-2
returns-then-not-is_open-2 c = λ all. c.if-not-is_open-2.ensures (all _ (flow_here c.args.flows.now c.loop-flow.flow-index c.loop-flow-test.true)).2

pub loop-flow-preserved : goal.loop-flow-preserved
loop-flow-preserved c k less =
    elim (cases_eq k c.loop-flow.flow-index) [
      | inl same ↦
          subst
          (λ i. IsEdge c.args.tables.now (flow_at c.args.flows.now i).parent (flow_at c.args.flows.now i).child
          × IsOpen (hash.get nat_eq c.args.tables.now.names) c.args.accounts.now c.args.part (flow_at c.args.flows.now i).child
          × IsOpen (hash.get nat_eq c.args.tables.now.names) c.args.accounts.now c.args.part (flow_at c.args.flows.now i).parent)
          (sym same) (sym c.if-not-contains.ensures, c.if-not-is_open.ensures, c.if-not-is_open-2.ensures)
      | inr other ↦ c.loop-flow.invariant k (omega arith)
    ]

pub returns : goal.returns
returns c flow here =
    let (k, in', is) = flow_of c.args.flows.now flow here in
    subst
    (λ (f : Flow). IsEdge c.args.tables.now f.parent f.child
    × IsOpen (hash.get nat_eq c.args.tables.now.names) c.args.accounts.now c.args.part f.child
    × IsOpen (hash.get nat_eq c.args.tables.now.names) c.args.accounts.now c.args.part f.parent)
    is (c.loop-flow.invariant k (omega arith))
