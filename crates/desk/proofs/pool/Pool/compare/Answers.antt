use Rattle.graph_model.specs.Commands.{Compare}
use Rattle.tx_graph.specs.Readings.{compare_reply}
use Rattle.desk.proofs.PoolLemmas.{pool_reads}
use Rattle.desk.proofs.pool.Pool.compare.Goals as goal

pub returns : goal.returns
returns c =
    pool_reads c.self.inside.graph c.self.inside.reorg c.args.self.now (Compare) (compare_reply c.compare.result) tt c.self.view_is c.compare.ensures.step
