use Rattle.fee_rate.proofs.Orders.{rate_order}
use Rattle.fee_rate.proofs.laws.rate_order_is_an_order.Goals as goal

pub returns : goal.returns
returns c = rate_order
