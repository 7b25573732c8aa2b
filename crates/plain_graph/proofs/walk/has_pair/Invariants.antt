use Rattle.std.proofs.Common.{ℕ, take}
use Rattle.std.specs.Prelude.{Contains}
use Rattle.plain_graph.proofs.walk.has_pair.Given as goal

abbrev pub invariant-loop-from : goal.invariant-loop-from
invariant-loop-from l = Contains {X = ℕ × ℕ} (take l.from-index l.pairs) (l.parent, l.child) → ⊥
