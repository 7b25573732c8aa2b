use Rattle.bitset.proofs.Operations.{FilledUpTo}
use Rattle.bitset.proofs.Shifts.{kept_below}
use Rattle.bitset.proofs.bits.Bits.resized.Given as goal

abbrev pub invariant-loop-i : goal.invariant-loop-i
invariant-loop-i g l = FilledUpTo (kept_below g.row.V l.self-inside.words) g.row.V l.words l.i
