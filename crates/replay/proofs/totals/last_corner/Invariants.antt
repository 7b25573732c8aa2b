use Rattle.std.proofs.Common.{◌≡◌, length}
use Rattle.replay.specs.Generations.{last_sum}
use Rattle.replay.proofs.totals.last_corner.Given as goal

-- the corners so far were counted, and the last one is kept
abbrev pub invariant-loop-size : goal.invariant-loop-size
invariant-loop-size g l = record { corners : l.corners ≡ length l.yielded; last : l.last ≡ last_sum l.yielded }
