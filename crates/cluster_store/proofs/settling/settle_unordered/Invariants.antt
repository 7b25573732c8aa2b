-- the first ones are settled
use Rattle.std.proofs.Common.{take}
use Rattle.cluster_store.specs.Slots.{Done}
use Rattle.cluster_store.specs.Unordered.{settled_unordered}
use Rattle.cluster_store.proofs.settling.settle_unordered.Given as goal

abbrev pub invariant-loop-at : goal.invariant-loop-at
invariant-loop-at g l = Done (λ n. n) (λ n. settled_unordered l.stays) (take l.at l.numbers) l.fn.slots.slots l.slots.slots
