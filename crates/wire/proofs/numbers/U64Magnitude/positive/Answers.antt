use Rattle.std.proofs.Common.{arith}
use Rattle.wire.proofs.NumberLemmas.{large_unread}
use Rattle.wire.proofs.numbers.U64Magnitude.positive.Goals as goal

pub returns-else-self : goal.returns-else-self
returns-else-self c = large_unread c.args.self (omega (arith, c.ranges.self.fits)) c.if-self.false
