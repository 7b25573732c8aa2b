use Rattle.std.proofs.Common.{◌≡◌, ◌≤◌}
use Rattle.chunk_index.specs.Spares.{kept, room}
use Rattle.chunk_index.proofs.spares.Spares.trim.Given as goal

abbrev pub invariant-loop-self : goal.invariant-loop-self
invariant-loop-self l = record {
  enough : l.needed ≤ kept l.self;
  fewer : kept l.self ≤ kept l.initial.self;
  room : room l.self ≡ room l.initial.self;
}

abbrev pub decreases-loop-self : goal.decreases-loop-self
decreases-loop-self l = kept l.self
