-- the entries of the first positions have the tag
use Rattle.std.proofs.Common.{take, []}
use Rattle.cluster_store.specs.Kept.{Enters}
use Rattle.cluster_store.proofs.entries.retag.Given as goal

abbrev pub invariant-loop-at : goal.invariant-loop-at
invariant-loop-at g l = Enters l.number l.to (take l.at l.cluster.parts) [] l.fn.index l.index
