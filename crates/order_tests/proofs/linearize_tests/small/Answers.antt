use Rattle.order_tests.proofs.Sizes.{order_room_fits}
use Rattle.order_tests.proofs.linearize_tests.small.Goals as goal

pub each_row-requires : goal.each_row-requires
each_row-requires g c = (order_room_fits g.row.W c.requires, c.requires)

pub chain-requires : goal.chain-requires
chain-requires g c = (order_room_fits g.row.W c.requires, c.requires)
