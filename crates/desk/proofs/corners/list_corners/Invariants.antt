-- the corners so far are listed
use Rattle.std.proofs.Common.{◌≡◌, map}
use Rattle.desk.specs.Copies.{corner_of}
use Rattle.desk.proofs.corners.list_corners.Given as goal

abbrev pub invariant-loop-size : goal.invariant-loop-size
invariant-loop-size g l = l.list.items ≡ map corner_of l.yielded
