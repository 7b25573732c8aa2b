use Rattle.std.proofs.Common.{◌≡◌, map, take}
use Rattle.links.specs.Gathering.{tx_at}
use Rattle.links.proofs.gathering.txs_at.Given as goal

abbrev pub invariant-loop-place : goal.invariant-loop-place
invariant-loop-place l = l.list.items ≡ map (tx_at l.txs) (take l.place-index l.places)
