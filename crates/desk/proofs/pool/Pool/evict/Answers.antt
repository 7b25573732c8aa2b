use Rattle.graph_model.specs.Commands.{Evict}
use Rattle.graph_model.specs.Replies.{evicted_reply}
use Rattle.desk.proofs.PoolLemmas.{pool_steps, pool_stays}
use Rattle.desk.proofs.pool.Pool.evict.Goals as goal

pub invariant_of-self : goal.invariant_of-self
invariant_of-self g c =
    pool_stays c.self.inside.graph c.evict.new.graph c.self.inside.reorg c.self.inside.found Evict (evicted_reply c.evict.result) tt
    c.evict.ensures.step c.self.invariant

pub returns : goal.returns
returns g c =
    pool_steps c.self.inside.graph c.evict.new.graph c.self.inside.reorg c.args.self.now Evict (evicted_reply c.evict.result) tt
    c.self.view_is c.evict.ensures.step
