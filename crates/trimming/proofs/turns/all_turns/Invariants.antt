use Rattle.std.proofs.Common.{◌-◌, length}
use Rattle.graph_model.specs.Limits.{bounds_of}
use Rattle.trimming.specs.Turns.{IsTrim}
use Rattle.trimming.proofs.turns.all_turns.Given as goal

abbrev pub invariant-loop-place : goal.invariant-loop-place
invariant-loop-place l = IsTrim (bounds_of l.limits) l.net l.trim.counts.ready.keys l.trim

abbrev pub decreases-loop-place : goal.decreases-loop-place
decreases-loop-place l = length l.net.txs.items - length l.trim.marked.items
