-- the clusters so far
use Rattle.std.proofs.Common.{take}
use Rattle.levels.specs.Gathered.{PutsAll}
use Rattle.levels.proofs.shelves.Shelves.put_all.Given as goal

abbrev pub invariant-loop-number : goal.invariant-loop-number
invariant-loop-number g l = PutsAll l.self (take l.number-index l.outs) l.fn.txs.items l.fn.pairs.items l.txs.items l.pairs.items
