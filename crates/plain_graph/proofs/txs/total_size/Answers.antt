use Rattle.std.proofs.Common.{◌≤◌, arith}
use Rattle.std.proofs.lemmas.Grind.{common_steps}
use Rattle.fee_rate.specs.declared.limits.TheConstants.{MAX_SIZE}
use Rattle.plain_graph.proofs.Entries.{size-small}
use Rattle.plain_graph.proofs.txs.total_size.Goals as goal

pub overflow_add-total : goal.overflow_add-total
overflow_add-total c =
    let small : c.size_of-total.result ≤ MAX_SIZE = rw c.size_of-total.ensures (size-small _ _ c.requires.small) in omega (arith, c.requires.few)

pub loop-id-preserved : goal.loop-id-preserved
loop-id-preserved c =
    let small : c.size_of-total.result ≤ MAX_SIZE = rw c.size_of-total.ensures (size-small _ _ c.requires.small) in (grind (arith, common_steps), omega arith)
