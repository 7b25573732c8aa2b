use Rattle.std.proofs.Common.{List, ℕ, ◌≡◌, ◌++◌, length}
use Rattle.std.specs.Io.KnownBytes.{Appends}
use Rattle.outside.proofs.sink.Sink.write_all.Given as goal

-- a front of the text was taken, and the rest is left
abbrev pub invariant-loop-rest : goal.invariant-loop-rest
invariant-loop-rest g l = record {
  taken : (front : List ℕ) × (front ++ l.rest ≡ l.text) × Appends (g.Self.Sink.written l.fn.self) (g.Self.Sink.written l.self) front;
  same : g.Self.Sink.faults l.self ≡ g.Self.Sink.faults l.fn.self;
}

abbrev pub decreases-loop-rest : goal.decreases-loop-rest
decreases-loop-rest g l = length l.rest
