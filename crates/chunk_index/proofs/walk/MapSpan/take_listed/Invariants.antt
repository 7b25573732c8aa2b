use Rattle.std.proofs.Common.{◌≡◌, length}
use Rattle.chunk_index.specs.Numbers.{span_left}
use Rattle.chunk_index.specs.Parts.{part_left}
use Rattle.chunk_index.specs.Sources.{map_listed}
use Rattle.chunk_index.proofs.walk.MapSpan.take_listed.Given as goal

abbrev pub invariant-loop-key : goal.invariant-loop-key
invariant-loop-key l = (map_listed l.self ≡ map_listed l.initial.self) × (part_left l.self.fresh ≡ part_left l.initial.self.fresh)

abbrev pub decreases-loop-key : goal.decreases-loop-key
decreases-loop-key l = length (span_left l.self.numbers)
