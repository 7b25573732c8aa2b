use Rattle.bitset.proofs.Operations.{empty_is}
use Rattle.bitset.proofs.bits.Bits.empty.Goals as goal

pub returns : goal.returns
returns g c = empty_is g.row.W
