use Rattle.fee_rate.proofs.Orders.{lie_between}
use Rattle.fee_rate.proofs.laws.sums_lie_between.Goals as goal

pub returns : goal.returns
returns c = lie_between
