use Rattle.order_tests.proofs.Sizes.{graph_fits}
use Rattle.order_tests.proofs.samples.add_all.Goals as goal

pub add-requires : goal.add-requires
add-requires g c = (graph_fits g.row.W c.requires, c.requires)
