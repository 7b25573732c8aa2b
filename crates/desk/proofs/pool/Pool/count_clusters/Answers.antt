use Rattle.desk.proofs.UnionLemmas.{pool_clusters}
use Rattle.desk.proofs.pool.Pool.count_clusters.Goals as goal

pub returns : goal.returns
returns c =
    pool_clusters c.self.inside.graph c.self.inside.reorg c.args.self.now c.args.level c.args.ids.now c.count_clusters.result c.self.view_is
    c.count_clusters.ensures
