use Rattle.std.proofs.Common.{rules, arith, ◌≤◌}
use Rattle.order_tests.proofs.Sizes.{graph_fits}
use Rattle.order_tests.proofs.samples.add.Goals as goal

pub members-requires : goal.members-requires
members-requires g c = (let few : g.row.W ≤ 2 = c.requires in (graph_fits g.row.W few, omega arith))

pub add-requires : goal.add-requires
add-requires g c = (graph_fits g.row.W c.requires, search rules)
