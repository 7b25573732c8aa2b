use Rattle.graph_model.specs.Commands.{Block}
use Rattle.graph_model.specs.Replies.{built_reply}
use Rattle.desk.proofs.PoolLemmas.{pool_reads}
use Rattle.desk.proofs.pool.Pool.block.Goals as goal

pub returns : goal.returns
returns c =
    pool_reads c.self.inside.graph c.self.inside.reorg c.args.self.now (Block c.args.size) (built_reply c.fill_block.result) tt c.self.view_is c.fill_block.ensures
