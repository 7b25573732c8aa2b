use Rattle.std.proofs.Common.{arith, sym, subst}
use Rattle.std.proofs.lemmas.List.{take_all}
use Rattle.std.specs.Prelude.{Contains}
use Rattle.lists.specs.Distinct.{AreDistinct}
use Rattle.certificate.proofs.Sets.{held, holding, upto_more, upto_again}
use Rattle.certificate.proofs.names.take_edges.Goals as goal

pub loop-edge-preserved : goal.loop-edge-preserved
loop-edge-preserved c =
    let e = c.put_pair.ensures in (
      upto_more _ _ c.args.edges.now c.loop-edge.edge-index c.put_pair.result c.loop-edge-test.true c.loop-edge.invariant.0 e.new c.if-not-put_pair.false e.here.0,
      omega (arith, e.room, c.loop-edge.invariant.1),
    )

pub returns-then-not-put_pair-clause-once : goal.returns-then-not-put_pair-clause-once
returns-then-not-put_pair-clause-once c =
    let e = c.put_pair.ensures in
    upto_again _ c.args.edges.now c.loop-edge.edge-index c.put_pair.result c.loop-edge-test.true c.loop-edge.invariant.0 e.new c.if-not-put_pair.true

pub returns-clause-set : goal.returns-clause-set
returns-clause-set c t edge =
    let whole = take_all c.loop-edge.edge-index c.args.edges.now (omega arith) in (
      (λ h. subst (λ l. Contains l edge) whole (held _ _ edge c.loop-edge.invariant.0.holds h)),
      (λ h. holding _ _ edge c.loop-edge.invariant.0.holds (subst (λ l. Contains l edge) (sym whole) h)),
    )

pub returns-clause-once : goal.returns-clause-once
returns-clause-once c =
    let whole = take_all c.loop-edge.edge-index c.args.edges.now (omega arith) in
    subst (λ l. AreDistinct l) whole c.loop-edge.invariant.0.distinct
