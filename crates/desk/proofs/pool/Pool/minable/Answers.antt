use Rattle.std.proofs.Common.{ap, sym, subst, ◌∙◌}
use Rattle.tx_graph.specs.Kept as graphs
use Rattle.desk.specs.Pools.{IsPool}
use Rattle.desk.proofs.FactLemmas.{pool_meets}
use Rattle.desk.proofs.PoolLemmas.{pool_of}
use Rattle.desk.proofs.pool.Pool.minable.Goals as goal

pub invariant_of-self : goal.invariant_of-self
invariant_of-self c =
    subst (λ (g : graphs.Kept). IsPool (pool_of g c.self.inside.reorg) c.self.inside.found) (sym c.minable.ensures.same) c.self.invariant

pub returns-clause-row : goal.returns-clause-row
returns-clause-row c =
    pool_meets c.self.inside.graph c.self.inside.reorg c.args.self.now c.args.ids.now c.minable.result c.self.view_is c.minable.ensures.row

pub returns-clause-same : goal.returns-clause-same
returns-clause-same c = ap (λ (g : graphs.Kept). pool_of g c.self.inside.reorg) c.minable.ensures.same ∙ c.self.view_is
