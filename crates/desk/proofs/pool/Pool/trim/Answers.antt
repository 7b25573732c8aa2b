use Rattle.graph_model.specs.Commands.{Trim}
use Rattle.graph_model.specs.Replies.{trimmed_reply}
use Rattle.desk.proofs.PoolLemmas.{pool_steps, pool_stays}
use Rattle.desk.proofs.pool.Pool.trim.Goals as goal

pub invariant_of-self : goal.invariant_of-self
invariant_of-self g c =
    pool_stays c.self.inside.graph c.trim.new.graph c.self.inside.reorg c.self.inside.found Trim (trimmed_reply c.trim.result) tt
    c.trim.ensures.step c.self.invariant

pub returns : goal.returns
returns g c =
    pool_steps c.self.inside.graph c.trim.new.graph c.self.inside.reorg c.args.self.now Trim (trimmed_reply c.trim.result) tt
    c.self.view_is c.trim.ensures.step
