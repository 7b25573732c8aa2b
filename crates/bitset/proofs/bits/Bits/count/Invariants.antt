use Rattle.std.proofs.Common.{◌≡◌, ◌*◌, ◌-◌, ◌^◌, min}
use Rattle.std.specs.FinSet as fin
use Rattle.bitset.specs.Places.{where_below}
use Rattle.bitset.specs.Words.{is_place}
use Rattle.bitset.proofs.bits.Bits.count.Given as goal

abbrev pub invariant-loop-i : goal.invariant-loop-i
invariant-loop-i g l = l.total ≡ min (fin.len (where_below (is_place l.self-inside.words) (64 * l.i))) (2 ^ 64 - 1)
