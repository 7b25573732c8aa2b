use Rattle.std.proofs.Common.{arith}
use Rattle.dump_text.proofs.Neighbours.{range_all, range_at}
use Rattle.dump_text.proofs.testing.are_in_range.Goals as goal

pub returns : goal.returns
returns c = range_all c.args.txs.now (λ k low. c.loop-tx.invariant k (omega arith))

pub returns-then-not-is_in_range : goal.returns-then-not-is_in_range
returns-then-not-is_in_range c = λ all. c.if-not-is_in_range.ensures (range_at c.args.txs.now c.loop-tx.tx-index all c.loop-tx-test.true)
