use Rattle.graph_model.specs.Commands.{Count}
use Rattle.graph_model.specs.Replies.{Number}
use Rattle.desk.proofs.PoolLemmas.{pool_reads}
use Rattle.desk.proofs.pool.Pool.count.Goals as goal

pub returns : goal.returns
returns c =
    pool_reads c.self.inside.graph c.self.inside.reorg c.args.self.now (Count c.args.level) (Number c.count.result) tt c.self.view_is c.count.ensures
