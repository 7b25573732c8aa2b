use Rattle.std.proofs.Common.{subst}
use Rattle.graph_model.specs.Commands.{Mine}
use Rattle.graph_model.specs.Replies.{change_reply}
use Rattle.reorg.specs.Kept.{Kept, MakesStep}
use Rattle.desk.proofs.PoolLemmas.{pool_of}
use Rattle.desk.proofs.pool.Pool.mine.Goals as goal

pub invariant_of-self : goal.invariant_of-self
invariant_of-self g c =
    let pool = c.self.invariant in
    let next = c.mine.ensures.step pool.stands.0 pool.stands.1 in record { stands = (next.0, next.1); room = pool.room }

pub returns : goal.returns
returns g c =
    subst (λ (k : Kept). MakesStep k (pool_of c.mine.new.graph c.mine.new.self) (Mine c.args.ids.now) (change_reply c.mine.result)) c.self.view_is
    c.mine.ensures.step
