use Rattle.mempool.proofs.PoolLemmas.{pool_without_blocks}
use Rattle.mempool.proofs.pool.Mempool.of.Goals as goal

pub invariant_of-result : goal.invariant_of-result
invariant_of-result g c =
    let (state, stands, empty) = c.requires.stands in pool_without_blocks c.args.graph c.new-reorg.result c.new-reorg.ensures state stands empty
