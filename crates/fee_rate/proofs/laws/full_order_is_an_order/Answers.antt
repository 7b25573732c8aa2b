use Rattle.fee_rate.proofs.Orders.{full_order}
use Rattle.fee_rate.proofs.laws.full_order_is_an_order.Goals as goal

pub returns : goal.returns
returns c = full_order
