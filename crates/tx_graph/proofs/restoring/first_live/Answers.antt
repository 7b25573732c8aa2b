use Rattle.std.proofs.Common.{pos, rules, sym, ◌∙◌, true≢false, arith}
use Rattle.levels.specs.Levels.{IsLive}
use Rattle.tx_graph.proofs.Asked.{first_here, none_at_all, none_yet, small_at_all, small_next}
use Rattle.tx_graph.proofs.restoring.first_live.Goals as goal

pub returns-then-is_live-clause-first : goal.returns-then-is_live-clause-first
returns-then-is_live-clause-first g c =
    first_here (IsLive c.args.levels.now) c.args.txs.now c.loop-tx.tx-index c.loop-tx.invariant.none _ c.loop-tx-test.true
    (c.is_live.ensures.0 c.if-is_live.true)

pub loop-tx-preserved : goal.loop-tx-preserved
loop-tx-preserved g c = record {
  none = none_yet (IsLive c.args.levels.now) c.args.txs.now c.loop-tx.tx-index c.loop-tx.invariant.none _ c.loop-tx-test.true
      (λ live. true≢false (sym (c.is_live.ensures.1 live) ∙ c.if-is_live.false));
  small = small_next c.args.txs.now c.loop-tx.tx-index (0, pos 0, 0) c.loop-tx-test.true (search rules) c.loop-tx.invariant.small;
}

pub returns-clause-first : goal.returns-clause-first
returns-clause-first g c = none_at_all (IsLive c.args.levels.now) c.args.txs.now c.loop-tx.tx-index c.loop-tx.invariant.none (omega arith)

pub returns-clause-small : goal.returns-clause-small
returns-clause-small g c none = small_at_all c.args.txs.now c.loop-tx.tx-index (omega arith) c.loop-tx.invariant.small
