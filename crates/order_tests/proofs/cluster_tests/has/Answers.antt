use Rattle.order_tests.proofs.Sizes.{cluster_fits}
use Rattle.order_tests.proofs.cluster_tests.has.Goals as goal

pub names-requires : goal.names-requires
names-requires g c = cluster_fits g.row.W c.requires
