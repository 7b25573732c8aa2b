-- the entries of the first positions are out
use Rattle.std.proofs.Common.{take, option_copied}
use Rattle.cluster_store.specs.Kept.{parts_of, Leaves}
use Rattle.cluster_store.proofs.entries.leave.Given as goal

abbrev pub invariant-loop-at : goal.invariant-loop-at
invariant-loop-at g l = Leaves l.number (take l.at l.gone.parts) (parts_of (option_copied l.other)) l.fn.index l.index
