use Rattle.std.proofs.Common.{ℕ, take, Contains}
use Rattle.order_tests.proofs.drawn_tests.has_none_of.Given as goal

abbrev pub invariant-loop-at : goal.invariant-loop-at
invariant-loop-at l = (id : ℕ) → Contains (take l.at l.ids) id → Contains l.cluster.names id → ⊥
