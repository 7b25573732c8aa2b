-- the entries of the first positions are in
use Rattle.std.proofs.Common.{take, option_copied}
use Rattle.cluster_store.specs.Kept.{parts_of, Enters}
use Rattle.cluster_store.proofs.entries.enter.Given as goal

abbrev pub invariant-loop-at : goal.invariant-loop-at
invariant-loop-at g l = Enters l.number l.tag (take l.at l.«new».parts) (parts_of (option_copied l.other)) l.fn.index l.index
