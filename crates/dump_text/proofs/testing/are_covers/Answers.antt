use Rattle.std.proofs.Common.{arith, below_more, sym, subst}
use Rattle.links.specs.Links.{Links}
use Rattle.dump_text.specs.Testing.{AreLinksOf}
use Rattle.dump_text.proofs.Covering.{covers_all, not_covers}
use Rattle.dump_text.proofs.testing.are_covers.Goals as goal

pub returns-then-not-passes : goal.returns-then-not-passes
returns-then-not-passes c = not_covers c.args.edges.now c.loop-at.at c.requires.acyclic c.loop-at-test.true c.if-not-passes.ensures.alone

pub loop-at-preserved : goal.loop-at-preserved
loop-at-preserved c = record {
  links = subst (λ (l : Links). AreLinksOf c.args.edges.now l) (sym c.passes.ensures.same) c.loop-at.invariant.links;
  alone = below_more _ _ c.loop-at.invariant.alone c.if-not-passes.ensures.alone;
}

pub returns : goal.returns
returns c = covers_all c.args.edges.now c.requires.acyclic (λ k low. c.loop-at.invariant.alone k (omega arith))
