use Rattle.std.proofs.Common.{rules}
use Rattle.order_tests.proofs.Sizes.{cluster_fits}
use Rattle.order_tests.proofs.cluster_tests.child_sends.Goals as goal

pub part_count-requires : goal.part_count-requires
part_count-requires g c = cluster_fits g.row.W c.requires

pub part-requires : goal.part-requires
part-requires g c = (cluster_fits g.row.W c.requires, search rules)
