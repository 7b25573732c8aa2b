use Rattle.std.proofs.Common.{◌-◌}
use Rattle.bitset.proofs.Operations.{FilledUpTo}
use Rattle.bitset.proofs.Shifts.{lowered_by}
use Rattle.bitset.proofs.bits.Bits.lowered.Given as goal

abbrev pub invariant-loop-i : goal.invariant-loop-i
invariant-loop-i g l = FilledUpTo (lowered_by l.by l.self-inside.words) g.row.W l.words (l.i - l.skipped)
