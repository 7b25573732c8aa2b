use Rattle.bitset.proofs.Operations.{FilledUpTo}
use Rattle.bitset.proofs.Shifts.{raised_by}
use Rattle.bitset.proofs.bits.Bits.raised.Given as goal

abbrev pub invariant-loop-i : goal.invariant-loop-i
invariant-loop-i g l = FilledUpTo (raised_by g.row.W l.by l.self-inside.words) g.row.W l.words l.i
