use Rattle.fee_rate.proofs.Orders.{by_size}
use Rattle.fee_rate.proofs.rates.cmp_full.Goals as goal

pub returns-in-Equal : goal.returns-in-Equal
returns-in-Equal c = by_size c.args.a c.args.b c.requires.a_some c.in-Equal.ensures c.cmp.result c.cmp.ensures
