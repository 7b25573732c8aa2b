use Rattle.std.proofs.Common.{◌≡◌, ◌-◌}
use Rattle.chunk_index.specs.Keys.{key_of, not_before}
use Rattle.chunk_index.specs.Parts.{part_left}
use Rattle.chunk_index.proofs.part.Part.skip_before.Given as goal

abbrev pub invariant-loop-self : goal.invariant-loop-self
invariant-loop-self l =
    (l.self.to ≡ l.initial.self.to) × (not_before key_of (part_left l.self) l.key ≡ not_before key_of (part_left l.initial.self) l.initial.key)

abbrev pub decreases-loop-self : goal.decreases-loop-self
decreases-loop-self l = l.self.to - l.self.from
