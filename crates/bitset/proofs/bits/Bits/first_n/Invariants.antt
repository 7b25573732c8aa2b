use Rattle.std.proofs.Common.{nat_lt}
use Rattle.bitset.proofs.Operations.{FilledUpTo}
use Rattle.bitset.proofs.bits.Bits.first_n.Given as goal

abbrev pub invariant-loop-i : goal.invariant-loop-i
invariant-loop-i g l = FilledUpTo (λ q. nat_lt q l.n) g.row.W l.words l.i
