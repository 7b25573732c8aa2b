use Rattle.std.proofs.Common.{ℕ, List, sym, subst}
use Rattle.std.proofs.lemmas.List.{take_more}
use Rattle.std.proofs.lemmas.List.Elements.{Contains-get_or}
use Rattle.levels.specs.Gathered.{PutsAll}
use Rattle.levels.proofs.Listing.{puts_more, puts_none, seen_here}
use Rattle.levels.proofs.shelves.Shelves.put_all.Goals as goal

pub loop-number-init : goal.loop-number-init
loop-number-init g c = puts_none c.args.self.now c.args.txs.now.items c.args.pairs.now.items

pub loop-number-preserved : goal.loop-number-preserved
loop-number-preserved g c =
    let shelf = c.args.self.now in
    let outs = c.args.outs.now in
    let k = c.loop-number.number-index in
    subst (λ (ns : List ℕ). PutsAll shelf ns c.args.txs.now.items c.args.pairs.now.items c.put_behind.new.txs.items c.put_behind.new.pairs.items)
    (sym (take_more outs k 0 c.loop-number-test.true))
    (puts_more shelf _ _ c.at.result.now
    (seen_here shelf _ c.at.result.now (c.requires.there _ (Contains-get_or outs k 0 c.loop-number-test.true)) c.at.ensures)
    c.args.txs.now.items c.loop-number.txs.items c.put_behind.new.txs.items c.args.pairs.now.items c.loop-number.pairs.items c.put_behind.new.pairs.items
    c.loop-number.invariant c.in_ok-put_behind.ensures)
