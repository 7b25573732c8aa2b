use Rattle.std.proofs.Common.{◌≡◌, ◌-◌, ◌≤◌, take, vec_len}
use Rattle.std.specs.Io.KnownBytes.{Appends}
use Rattle.replay.proofs.gathered.send.Given as goal

-- the bytes before `at` went out
abbrev pub invariant-pieces : goal.invariant-pieces
invariant-pieces g l = record {
  within : l.at ≤ vec_len l.held;
  kept : l.held ≡ l.fn.held;
  out : Appends (g.K.Sink.written l.fn.sink) (g.K.Sink.written l.sink) (take l.at l.held.items);
  same : g.K.Sink.faults l.sink ≡ g.K.Sink.faults l.fn.sink;
}

abbrev pub decreases-pieces : goal.decreases-pieces
decreases-pieces g l = vec_len l.held - l.at
