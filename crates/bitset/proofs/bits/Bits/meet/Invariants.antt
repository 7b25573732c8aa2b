use Rattle.std.proofs.Common.{bit_and}
use Rattle.bitset.proofs.Operations.{MadeUpTo}
use Rattle.bitset.proofs.bits.Bits.meet.Given as goal

abbrev pub invariant-loop-i : goal.invariant-loop-i
invariant-loop-i g l = MadeUpTo bit_and g.row.W l.initial.words l.other-inside.words l.words l.i
