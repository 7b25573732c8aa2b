-- the numbers that were passed over have no such cluster
use Rattle.std.proofs.Common.{◌≡◌, length}
use Rattle.cluster_store.specs.Overs.{lacking_of}
use Rattle.cluster_store.proofs.over_walk.first_over.Given as goal

abbrev pub invariant-loop-number : goal.invariant-loop-number
invariant-loop-number g l =
    lacking_of (g.T.MayLack.lacking l.level) l.slots.slots l.numbers ≡ lacking_of (g.T.MayLack.lacking l.level) l.slots.slots l.left

abbrev pub decreases-loop-number : goal.decreases-loop-number
decreases-loop-number g l = length l.left
