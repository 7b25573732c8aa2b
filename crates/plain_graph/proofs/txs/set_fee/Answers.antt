use Rattle.std.proofs.Common.{to_z, of_z, rules}
use Rattle.std.specs.Int.{w64}
use Rattle.std.proofs.lemmas.List.Edits.{map_over_more}
use Rattle.plain_graph.specs.Rests.{paying}
use Rattle.plain_graph.proofs.txs.set_fee.Goals as goal

pub loop-tx-preserved : goal.loop-tx-preserved
loop-tx-preserved c = rw c.pay.ensures (map_over_more (paying c.args.id (to_z w64 (of_z w64 c.args.fee)))
    c.args.txs.now.items c.loop-tx.tx-items c.loop-tx.tx-index _ (search rules) c.loop-tx.invariant (search rules))
