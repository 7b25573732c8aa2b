use Rattle.std.proofs.Common.{◌≡◌, map, take}
use Rattle.links.specs.Pricing.{priced}
use Rattle.links.proofs.pricing.all_priced.Given as goal

abbrev pub invariant-loop-tx : goal.invariant-loop-tx
invariant-loop-tx l = l.list.items ≡ map (priced l.id l.fee) (take l.tx-index l.txs)
