use Rattle.std.proofs.Common.{◌*◌, refl}
use Rattle.graph_model.specs.States.{start}
use Rattle.mempool.proofs.PoolLemmas.{pool_without_blocks}
use Rattle.mempool.proofs.pool.Mempool.new.Goals as goal

pub invariant_of-result : goal.invariant_of-result
invariant_of-result g c =
    pool_without_blocks c.in_ok-graph.graph c.new-reorg.result c.new-reorg.ensures (start (64 * g.row.W)) c.in_ok-graph.ensures.start refl
