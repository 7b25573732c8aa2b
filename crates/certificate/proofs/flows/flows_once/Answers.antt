use Rattle.std.proofs.Common.{arith, subst}
use Rattle.std.proofs.lemmas.List.{take_all}
use Rattle.lists.specs.Distinct.{AreDistinct}
use Rattle.certificate.specs.Accounts.{ends_of}
use Rattle.certificate.proofs.Bookings.{ends_at, ends_long, ends_all}
use Rattle.certificate.proofs.Sets.{put_next, put_again}
use Rattle.certificate.proofs.flows.flows_once.Goals as goal

pub returns-then-not-put_pair : goal.returns-then-not-put_pair
returns-then-not-put_pair c =
    let e = c.put_pair.ensures in
    put_again _ (ends_of c.args.flows.now) c.loop-flow.flow-index _ c.put_pair.result
    (ends_at c.args.flows.now c.loop-flow.flow-index c.loop-flow-test.true)
    (ends_long c.args.flows.now c.loop-flow.flow-index c.loop-flow-test.true) c.loop-flow.invariant.0 e.new c.if-not-put_pair.true

pub loop-flow-preserved : goal.loop-flow-preserved
loop-flow-preserved c =
    let e = c.put_pair.ensures in (
      put_next _ _ (ends_of c.args.flows.now) c.loop-flow.flow-index _ c.put_pair.result
          (ends_at c.args.flows.now c.loop-flow.flow-index c.loop-flow-test.true)
          (ends_long c.args.flows.now c.loop-flow.flow-index c.loop-flow-test.true) c.loop-flow.invariant.0 e.new c.if-not-put_pair.false e.here.0,
      omega (arith, e.room, c.loop-flow.invariant.1),
    )

pub returns : goal.returns
returns c =
    let long = ends_all c.args.flows.now in
    let whole = take_all c.loop-flow.flow-index (ends_of c.args.flows.now) (omega arith) in
    subst (λ l. AreDistinct l) whole c.loop-flow.invariant.0.distinct
