-- the first ones don't stand in the level without an order
use Rattle.std.proofs.Common.{ℕ, take, Contains}
use Rattle.cluster_store.specs.Unordered.{LacksOrderIn}
use Rattle.cluster_store.specs.Kept.{at}
use Rattle.cluster_store.proofs.unordered.lacks_order.Given as goal

abbrev pub invariant-loop-at : goal.invariant-loop-at
invariant-loop-at g l = (n : ℕ) → Contains (take l.at l.numbers) n → LacksOrderIn l.level (at l.slots.slots n) → ⊥
