use Rattle.graph_model.specs.Commands.{Settle}
use Rattle.tx_graph.specs.Readings.{settle_reply}
use Rattle.desk.proofs.PoolLemmas.{pool_steps, pool_stays}
use Rattle.desk.proofs.pool.Pool.settle.Goals as goal

pub invariant_of-self : goal.invariant_of-self
invariant_of-self c =
    pool_stays c.self.inside.graph c.settle.new.self c.self.inside.reorg c.self.inside.found Settle (settle_reply c.settle.result) tt
    c.settle.ensures.step c.self.invariant

pub returns : goal.returns
returns c =
    pool_steps c.self.inside.graph c.settle.new.self c.self.inside.reorg c.args.self.now Settle (settle_reply c.settle.result) tt
    c.self.view_is c.settle.ensures.step
