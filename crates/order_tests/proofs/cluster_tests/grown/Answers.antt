use Rattle.std.proofs.Common.{rules}
use Rattle.order_tests.proofs.Sizes.{cluster_fits, room_fits}
use Rattle.order_tests.proofs.cluster_tests.grown.Goals as goal

pub alone-requires : goal.alone-requires
alone-requires g c = (room_fits g.row.W c.requires, (cluster_fits g.row.W c.requires, c.requires))

pub joined-requires : goal.joined-requires
joined-requires g c = (room_fits g.row.W c.requires, (cluster_fits g.row.W c.requires, (c.requires, search rules)))
