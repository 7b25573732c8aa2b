use Rattle.std.proofs.Common.{◌≡◌, ◌++◌, map, take}
use Rattle.places.specs.Chains.{turned}
use Rattle.certificate.proofs.groups.both_ways.Given as goal

abbrev pub invariant-loop-pair : goal.invariant-loop-pair
invariant-loop-pair l = l.steps.items ≡ l.pairs ++ map turned (take l.pair-index l.pairs)
