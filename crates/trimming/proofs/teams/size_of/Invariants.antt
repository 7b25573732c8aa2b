use Rattle.std.proofs.Common.{◌≡◌, sum_by, take}
use Rattle.trimming.specs.Nets.{size_at}
use Rattle.trimming.proofs.teams.size_of.Given as goal

abbrev pub invariant-loop-place : goal.invariant-loop-place
invariant-loop-place l = l.size ≡ sum_by (size_at l.net.txs.items) (take l.place-index l.places)
