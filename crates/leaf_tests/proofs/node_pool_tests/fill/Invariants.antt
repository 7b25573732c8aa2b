use Rattle.std.proofs.Common.{◌≤◌}
use Rattle.leaf_tests.proofs.node_pool_tests.fill.Given as goal

abbrev pub invariant-loop-byte : goal.invariant-loop-byte
invariant-loop-byte l = l.pool.issued ≤ l.byte
