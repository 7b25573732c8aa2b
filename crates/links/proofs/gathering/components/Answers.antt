use Rattle.std.proofs.Common.{arith}
use Rattle.links.proofs.Finding.{found_all}
use Rattle.links.proofs.gathering.components.Goals as goal

pub returns : goal.returns
returns c =
    found_all (record { txs = c.args.txs.now; pairs = c.args.pairs.now }) c.loop-place.place c.loop-place.search.taken.items c.loop-place.parts.items
    c.requires.whole c.loop-place.invariant.found (omega arith)
