use Rattle.std.proofs.Common.{rules}
use Rattle.order_tests.proofs.Sizes.{cluster_fits}
use Rattle.order_tests.proofs.cluster_tests.part_of.Goals as goal

pub part_count-requires : goal.part_count-requires
part_count-requires g c = cluster_fits g.row.W c.requires

pub part-shown-requires : goal.part-shown-requires
part-shown-requires g c = (cluster_fits g.row.W c.requires, search rules)
