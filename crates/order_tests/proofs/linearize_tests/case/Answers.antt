use Rattle.order_tests.proofs.Sizes.{order_room_fits, graph_fits}
use Rattle.order_tests.proofs.linearize_tests.case.Goals as goal

pub graph_of-requires : goal.graph_of-requires
graph_of-requires g c = (graph_fits g.row.W c.requires, c.requires)

pub ordered-requires : goal.ordered-requires
ordered-requires g c = (order_room_fits g.row.W c.requires, (graph_fits g.row.W c.requires, c.requires))
