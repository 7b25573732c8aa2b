use Rattle.std.proofs.Common.{subst, sym, ◌<◌}
use Rattle.graph_model.specs.Replies.{change_reply}
use Rattle.reorg.specs.Kept.{Kept}
use Rattle.desk.specs.Requests.{change_command}
use Rattle.desk.proofs.PoolLemmas.{pool_steps, pool_stays, change_leaves}
use Rattle.desk.proofs.pool.Pool.change.Goals as goal

pub invariant_of-self : goal.invariant_of-self
invariant_of-self g c =
    pool_stays c.self.inside.graph c.make.new.graph c.self.inside.reorg c.self.inside.found (change_command c.args.change) (change_reply c.make.result)
    (change_leaves c.args.change) c.make.ensures c.self.invariant

pub returns : goal.returns
returns g c =
    pool_steps c.self.inside.graph c.make.new.graph c.self.inside.reorg c.args.self.now (change_command c.args.change) (change_reply c.make.result)
    (change_leaves c.args.change) c.self.view_is c.make.ensures

pub make-requires : goal.make-requires
make-requires g c = subst (λ (k : Kept). k.graph.levels.issued < 18446744073709551615) (sym c.self.view_is) c.requires
