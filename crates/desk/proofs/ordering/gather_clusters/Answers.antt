use Rattle.desk.proofs.ClusterLemmas.{tells_clusters}
use Rattle.desk.proofs.ordering.gather_clusters.Goals as goal

pub returns : goal.returns
returns c =
    tells_clusters c.args.graph.now c.args.level c.components.result c.components.ensures.components c.list_components.result
    c.list_components.ensures.listed c.list_components.ensures.whole
