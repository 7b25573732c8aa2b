use Rattle.std.proofs.Common.{◌+◌, ◌≤◌, take}
use Rattle.chunking.proofs.Stacks.{Stack}
use Rattle.chunking.proofs.chunks.put.Given as goal

abbrev pub decreases-loop-left : goal.decreases-loop-left
decreases-loop-left l = l.left

abbrev pub invariant-loop-left : goal.invariant-loop-left
invariant-loop-left l = (l.left ≤ l.fn.count) × Stack (take (l.at + 1) l.rates) (take l.left l.out) l.sum
