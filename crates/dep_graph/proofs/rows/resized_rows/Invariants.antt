use Prim.Native.Nat.{max}
use Rattle.std.proofs.Common.{◌≡◌}
use Rattle.dep_graph.specs.Changes.{AreResized}
use Rattle.dep_graph.proofs.rows.resized_rows.Given as goal

abbrev pub invariant-loop-place : goal.invariant-loop-place
invariant-loop-place g l = AreResized g.row.V l.place l.from l.rows.items × (l.rows.capacity ≡ max 1 l.count)
