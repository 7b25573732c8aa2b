use Rattle.bitset.proofs.Operations.{full_word, part_word}
use Rattle.bitset.proofs.bits.low_bits.Goals as goal

pub returns-then-i-n : goal.returns-then-i-n
returns-then-i-n c k bit = full_word c.args.i c.args.n k bit c.if-i-n.true

pub returns-then-i-n-2 : goal.returns-then-i-n-2
returns-then-i-n-2 c k bit = part_word c.args.i c.args.n k bit c.if-i-n-2.true
