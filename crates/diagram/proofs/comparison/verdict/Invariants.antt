use Rattle.std.proofs.Common.{ℕ, ◌+◌, ℤ, List}
use Rattle.diagram.specs.Points.{YieldsCorners}
use Rattle.diagram.specs.Comparisons.{IsReady, pending}
use Rattle.diagram.proofs.VerdictLemmas.{Walks}
use Rattle.diagram.proofs.comparison.verdict.Given as goal

abbrev pub invariant-loop-here : goal.invariant-loop-here
invariant-loop-here g l = record {
  walks : (xs ys : List (ℕ × ℤ)) → YieldsCorners g.A.Iterator.next_gives l.fn.a xs → YieldsCorners g.B.Iterator.next_gives l.fn.b ys
      → Walks g.A.Iterator.next_gives g.B.Iterator.next_gives l.a l.b l.found xs ys;
  a_ready : IsReady g.A.Iterator.can_next g.A.Iterator.remaining l.a;
  b_ready : IsReady g.B.Iterator.can_next g.B.Iterator.remaining l.b;
}

abbrev pub decreases-loop-here : goal.decreases-loop-here
decreases-loop-here g l = pending g.A.Iterator.remaining l.a + pending g.B.Iterator.remaining l.b
