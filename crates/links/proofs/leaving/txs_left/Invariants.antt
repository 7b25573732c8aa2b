use Rattle.std.proofs.Common.{◌≡◌, take, nat_eq, not}
use Rattle.std.specs.List.{filter}
use Rattle.std.specs.HashSet as bag
use Rattle.links.proofs.leaving.txs_left.Given as goal

abbrev pub invariant-loop-tx : goal.invariant-loop-tx
invariant-loop-tx l = l.list.items ≡ filter (λ tx. not (bag.contains nat_eq l.gone tx.0)) (take l.tx-index l.txs)
