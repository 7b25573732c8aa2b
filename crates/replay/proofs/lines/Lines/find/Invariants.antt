use Rattle.std.proofs.Common.{◌≡◌, ◌≢◌, ◌≤◌, ◌⊎◌, List, ℕ, ◌++◌}
use Rattle.replay.specs.declared.lines.Stage.TheVariants.{Open}
use Rattle.replay.specs.Cuts.{Leaves, Reads, HasLine, ahead, reads_left}
use Rattle.replay.proofs.lines.Lines.find.Given as goal

-- more was taken, and no line was given
abbrev pub invariant-reads : goal.invariant-reads
invariant-reads g l = record {
  reads : (rest : List ℕ) → Leaves l.fn.self rest
      → (more : List ℕ) × Reads l.fn.self l.self (g.S.Source.left l.fn.source) (g.S.Source.left l.source) more × Leaves l.self (rest ++ more);
  same : g.S.Source.faults l.source ≡ g.S.Source.faults l.fn.source;
  lighter : ahead l.self ≤ ahead l.fn.self;
  still : HasLine l.fn.self.held ⊎ (l.fn.self.stage ≢ Open) → (l.source ≡ l.fn.source) × (l.self ≡ l.fn.self);
}

abbrev pub decreases-reads : goal.decreases-reads
decreases-reads g l = reads_left l.self
