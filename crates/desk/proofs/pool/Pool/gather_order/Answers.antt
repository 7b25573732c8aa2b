use Rattle.graph_model.specs.Commands as commands
use Rattle.graph_model.specs.Replies.{Reply}
use Rattle.tx_graph.specs.Kept as graphs
use Rattle.reorg.specs.Kept.{MakesStep}
use Rattle.desk.proofs.PoolLemmas.{pool_reads, pool_gathers_order}
use Rattle.desk.proofs.pool.Pool.gather_order.Goals as goal

pub returns : goal.returns
returns c =
    pool_gathers_order (graphs.MakesStep c.self.inside.graph c.self.inside.graph (commands.Order c.args.level)) (MakesStep c.args.self.now c.args.self.now (commands.Order c.args.level))
    (λ (reply : Reply) steps. pool_reads c.self.inside.graph c.self.inside.reorg c.args.self.now (commands.Order c.args.level) reply tt c.self.view_is steps)
    c.gather_order.result c.gather_order.ensures
