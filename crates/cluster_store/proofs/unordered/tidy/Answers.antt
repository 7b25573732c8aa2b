-- One number more is looked at.
use Rattle.cluster_store.proofs.unordered.tidy.Goals as goal

pub loop-left-init : goal.loop-left-init
loop-left-init g c = c.requires

pub loop-left-preserved-in-Some : goal.loop-left-preserved-in-Some
loop-left-preserved-in-Some g c = λ n is. c.unlist.ensures.unordered n is (c.loop-left.invariant n is)

pub loop-left-preserved : goal.loop-left-preserved
loop-left-preserved g c = c.loop-left.invariant

pub returns : goal.returns
returns g c = c.loop-left.invariant
