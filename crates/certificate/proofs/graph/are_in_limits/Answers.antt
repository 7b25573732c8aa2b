use Rattle.std.proofs.Common.{arith}
use Rattle.certificate.proofs.GraphLemmas.{limits_all, limits_at}
use Rattle.certificate.proofs.graph.are_in_limits.Goals as goal

pub returns : goal.returns
returns c = limits_all c.args.txs.now (omega arith) (λ k in'. c.loop-tx.invariant k (omega arith))

pub returns-then-not-is_in_limits : goal.returns-then-not-is_in_limits
returns-then-not-is_in_limits c = λ l. c.if-not-is_in_limits.ensures (limits_at c.args.txs.now c.loop-tx.tx-index l c.loop-tx-test.true)
