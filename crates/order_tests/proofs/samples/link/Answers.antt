use Rattle.std.proofs.Common.{rules}
use Rattle.order_tests.proofs.Sizes.{graph_fits}
use Rattle.order_tests.proofs.samples.link.Goals as goal

pub is_in-requires : goal.is_in-requires
is_in-requires g c = (graph_fits g.row.W c.requires, (c.requires, search rules))

pub is_in-requires-2 : goal.is_in-requires-2
is_in-requires-2 g c = (graph_fits g.row.W c.requires, (c.requires, search rules))

pub would_cycle-requires : goal.would_cycle-requires
would_cycle-requires g c = (graph_fits g.row.W c.requires, search rules)

pub add_dep-requires : goal.add_dep-requires
add_dep-requires g c = (graph_fits g.row.W c.requires, search rules)
