use Rattle.std.proofs.Common.{sym, ◌∙◌, subst, ◌+◌, take, arith}
use Rattle.certificate.specs.Places.{ArePairs}
use Rattle.certificate.proofs.PlaceLemmas.{no_parent, no_child, more_pairs}
use Rattle.certificate.proofs.names.take_ends.Goals as goal

pub returns-in_default : goal.returns-in_default
returns-in_default c list h =
    no_parent list _ c.args.edges.now c.loop-edge.edge-index c.loop-edge-test.true h (sym c.find.ensures ∙ c.in_default.is)

pub returns-in_default-find : goal.returns-in_default-find
returns-in_default-find c list h =
    no_child list _ c.args.edges.now c.loop-edge.edge-index c.loop-edge-test.true h (sym c.find-in-loop-edge.ensures ∙ c.in_default-find.is)

pub loop-edge-preserved : goal.loop-edge-preserved
loop-edge-preserved c = (
  λ list h.
      subst (λ l. ArePairs list (take (c.loop-edge.edge-index + 1) c.args.edges.now) l) (sym c.push_reserved.ensures.items)
      (more_pairs list _ c.args.edges.now c.loop-edge.pairs.items c.loop-edge.edge-index _ _ c.loop-edge-test.true h
      (sym c.find.ensures ∙ c.in-Some.is) (sym c.find-in-loop-edge.ensures ∙ c.in-Some-find.is) (c.loop-edge.invariant.0 list h)),
  omega (arith, c.push_reserved.ensures.len, c.loop-edge.invariant.1),
  omega (arith, c.push_reserved.ensures.capacity, c.loop-edge.invariant.2),
)
