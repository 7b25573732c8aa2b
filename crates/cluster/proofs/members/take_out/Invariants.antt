use Rattle.cluster.proofs.Takes.{AreTaken}
use Rattle.cluster.proofs.members.take_out.Given as goal

abbrev pub invariant-loop-at : goal.invariant-loop-at
invariant-loop-at g l = AreTaken l.own l.names l.at l.initial.rest l.rest
