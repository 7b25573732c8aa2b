use Rattle.links.specs.Gathering.{HasFound}
use Rattle.links.proofs.gathering.components.Given as goal

abbrev pub invariant-loop-place : goal.invariant-loop-place
invariant-loop-place l = HasFound (record { txs = l.txs; pairs = l.pairs }) l.maps.up.steps.items l.place l.search l.parts.items
