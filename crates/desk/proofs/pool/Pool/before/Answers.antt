use Rattle.graph_model.specs.Commands.{Before}
use Rattle.tx_graph.specs.Readings.{place_reply}
use Rattle.desk.proofs.PoolLemmas.{pool_reads}
use Rattle.desk.proofs.pool.Pool.before.Goals as goal

pub returns : goal.returns
returns c =
    pool_reads c.self.inside.graph c.self.inside.reorg c.args.self.now (Before c.args.a c.args.b) (place_reply c.before-place.result) tt c.self.view_is c.before-place.ensures.step
