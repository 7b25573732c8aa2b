use Rattle.order_tests.proofs.Sizes.{order_room_fits}
use Rattle.order_tests.proofs.linearize_tests.each_row.Goals as goal

pub case-requires : goal.case-requires
case-requires g c = (order_room_fits g.row.W c.requires, c.requires)
