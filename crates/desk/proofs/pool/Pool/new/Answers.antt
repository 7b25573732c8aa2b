use Rattle.std.proofs.Common.{refl}
use Rattle.tx_graph.specs.Kept.{start_within}
use Rattle.desk.proofs.PoolLemmas.{pool_is_new}
use Rattle.desk.proofs.pool.Pool.new.Goals as goal

pub of_graph-requires : goal.of_graph-requires
of_graph-requires c = (start_within 128 c.args.limits, c.in_ok-graph.ensures.start, refl)

pub returns : goal.returns
returns c = pool_is_new c.args.limits c.in_ok-graph.graph c.in_ok-graph.ensures.start c.in_ok-graph.ensures.additions c.of_graph.result c.of_graph.ensures
