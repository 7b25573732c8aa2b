-- the parts so far are of marked clusters
use Rattle.std.proofs.Common.{length}
use Rattle.block_builder.proofs.Passing.{ArePassed}
use Rattle.block_builder.proofs.ahead.Ahead.go_past.Given as goal

abbrev pub invariant-loop-shown : goal.invariant-loop-shown
invariant-loop-shown g l = ArePassed l.marks l.initial.self-inside.behind l.self-inside.behind

abbrev pub decreases-loop-shown : goal.decreases-loop-shown
decreases-loop-shown g l = length l.self-inside.behind
