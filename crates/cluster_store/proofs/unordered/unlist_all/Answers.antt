-- One number more is looked at.
use Rattle.std.proofs.Common.{arith}
use Rattle.cluster_store.proofs.unordered.unlist_all.Goals as goal

pub loop-at-init : goal.loop-at-init
loop-at-init g c = record { unordered = λ n _ listed. listed; room = omega arith }

pub loop-at-preserved : goal.loop-at-preserved
loop-at-preserved g c = record {
  unordered = λ n is listed. c.unlist.ensures.unordered n is (c.loop-at.invariant.unordered n is listed);
  room = omega (arith, c.loop-at.invariant.room, c.unlist.ensures.room);
}

pub returns-clause-unordered : goal.returns-clause-unordered
returns-clause-unordered g c = c.loop-at.invariant.unordered

pub returns-clause-room : goal.returns-clause-room
returns-clause-room g c = c.loop-at.invariant.room
