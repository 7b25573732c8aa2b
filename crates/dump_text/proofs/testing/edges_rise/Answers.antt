use Rattle.std.proofs.Common.{◌-◌, arith}
use Rattle.dump_text.proofs.Neighbours.{edges_all, edges_at}
use Rattle.dump_text.proofs.testing.edges_rise.Goals as goal

pub returns : goal.returns
returns c = edges_all c.args.edges.now (λ k low. c.loop-at.invariant k (omega arith))

pub returns-then-not-is_before : goal.returns-then-not-is_before
returns-then-not-is_before c = λ rising.
    c.if-not-is_before.ensures (edges_at c.args.edges.now (c.loop-at.at - 1) c.loop-at.at rising (omega arith) (omega arith))
