use Rattle.order_tests.proofs.Sizes.{graph_fits}
use Rattle.order_tests.proofs.samples.graph_of.Goals as goal

pub add_all-requires : goal.add_all-requires
add_all-requires g c = (graph_fits g.row.W c.requires, c.requires)

pub link-requires : goal.link-requires
link-requires g c = (graph_fits g.row.W c.requires, c.requires)
