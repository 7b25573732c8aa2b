-- the pairs so far whose child is here
use Rattle.std.proofs.Common.{take}
use Rattle.levels.specs.Gathered.{AreHere}
use Rattle.levels.proofs.shelves.Shelves.pairs_here.Given as goal

abbrev pub invariant-loop-pair : goal.invariant-loop-pair
invariant-loop-pair g l = AreHere l.self l.txs (take l.pair-index l.pairs) l.here.items
