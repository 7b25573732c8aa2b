use Rattle.bitset.proofs.Operations.{without, MadeUpTo}
use Rattle.bitset.proofs.bits.Bits.minus.Given as goal

abbrev pub invariant-loop-i : goal.invariant-loop-i
invariant-loop-i g l = MadeUpTo without g.row.W l.initial.words l.other-inside.words l.words l.i
