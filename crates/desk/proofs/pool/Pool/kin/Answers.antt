use Rattle.std.proofs.Common.{ap, sym, subst, ◌∙◌}
use Rattle.tx_graph.specs.Kept as graphs
use Rattle.desk.specs.Pools.{IsPool}
use Rattle.desk.proofs.PoolLemmas.{pool_of}
use Rattle.desk.proofs.UnionLemmas.{pool_kin}
use Rattle.desk.proofs.pool.Pool.kin.Goals as goal

pub invariant_of-self : goal.invariant_of-self
invariant_of-self c =
    subst (λ (g : graphs.Kept). IsPool (pool_of g c.self.inside.reorg) c.self.inside.found) (sym c.kin_of.ensures.same) c.self.invariant

pub returns-clause-kin : goal.returns-clause-kin
returns-clause-kin c =
    pool_kin c.self.inside.graph c.self.inside.reorg c.args.self.now c.args.kin c.args.level c.args.ids.now c.kin_of.result c.self.view_is
    c.kin_of.ensures.kin

pub returns-clause-same : goal.returns-clause-same
returns-clause-same c = ap (λ (g : graphs.Kept). pool_of g c.self.inside.reorg) c.kin_of.ensures.same ∙ c.self.view_is
