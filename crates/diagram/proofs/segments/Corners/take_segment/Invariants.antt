use Rattle.std.proofs.Common.{◌≤◌, List}
use Rattle.std.specs.Iterator.{AlwaysYields, IsFinite, size}
use Rattle.fee_rate.specs.declared.rates.Sum.{Sum}
use Rattle.diagram.specs.Parts.{rate_of}
use Rattle.diagram.proofs.WalkLemmas.{SoFar}
use Rattle.diagram.proofs.segments.Corners.take_segment.Given as goal

abbrev pub invariant-loop-rate : goal.invariant-loop-rate
invariant-loop-rate g l = record {
  so_far : (more : List Sum) → AlwaysYields g.I.Iterator.next_gives rate_of l.fn.self.parts more
      → SoFar g.I.Iterator.next_gives l.fn.self.end l.first more l.self.parts l.self.end;
  callable : g.I.Iterator.can_next l.self.parts;
  finite : IsFinite (g.I.Iterator.remaining l.self.parts);
  fewer : size (g.I.Iterator.remaining l.self.parts) ≤ size (g.I.Iterator.remaining l.fn.self.parts);
}

abbrev pub decreases-loop-rate : goal.decreases-loop-rate
decreases-loop-rate g l = size (g.I.Iterator.remaining l.self.parts)
