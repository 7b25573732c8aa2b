use Rattle.std.proofs.Common.{ℕ, List, nat_eq, subst, arith}
use Rattle.std.specs.HashSet as bag
use Rattle.std.proofs.lemmas.List.{take_all}
use Rattle.levels.specs.Gathered.{AreHere}
use Rattle.levels.proofs.Listing.{here_more}
use Rattle.levels.proofs.shelves.Shelves.pairs_here.Goals as goal

pub loop-pair-preserved : goal.loop-pair-preserved
loop-pair-preserved g c =
    here_more c.args.self.now c.args.pairs.now c.loop-pair.pair-index _ c.loop-pair-test.true c.args.txs.now (bag.contains nat_eq c.in_ok-names.names)
    c.in_ok-names.ensures c.loop-pair.here.items c.keep.new.here.items c.loop-pair.invariant c.in_ok-keep.ensures

pub returns : goal.returns
returns g c =
    subst (λ (ps : List (ℕ × ℕ)). AreHere c.args.self.now c.args.txs.now ps c.loop-pair.here.items)
    (take_all c.loop-pair.pair-index c.args.pairs.now (omega arith)) c.loop-pair.invariant
