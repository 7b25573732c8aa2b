use Rattle.std.proofs.Common.{◌-◌, ◌<◌, arith}
use Rattle.dump_text.proofs.Neighbours.{names_all, names_at, tx_at}
use Rattle.dump_text.proofs.testing.names_rise.Goals as goal

pub returns : goal.returns
returns c = names_all c.args.txs.now (λ k low. c.loop-at.invariant k (omega arith))

pub returns-then-txs-at : goal.returns-then-txs-at
returns-then-txs-at c = λ rising.
    let low : (tx_at c.args.txs.now (c.loop-at.at - 1)).0 < (tx_at c.args.txs.now c.loop-at.at).0 =
    names_at c.args.txs.now (c.loop-at.at - 1) c.loop-at.at (omega arith) rising (omega arith) in
    omega (arith, low, c.if-txs-at.true)
