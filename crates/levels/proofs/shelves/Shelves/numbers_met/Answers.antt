use Rattle.std.proofs.Common.{ℕ, List, subst, arith}
use Rattle.std.proofs.lemmas.List.{take_all}
use Rattle.levels.proofs.Listing.{Met, met_more}
use Rattle.levels.proofs.shelves.Shelves.numbers_met.Goals as goal

pub loop-pair-preserved : goal.loop-pair-preserved
loop-pair-preserved g c = record {
  lists = c.in_ok-meet.ensures.lists;
  met = met_more c.args.self.now c.args.pairs.now c.loop-pair.pair-index _ c.loop-pair-test.true c.loop-pair.outs.items c.meet.new.outs.items
      c.loop-pair.invariant.met c.in_ok-meet.ensures.more;
}

pub returns : goal.returns
returns g c = record {
  once = c.loop-pair.invariant.lists.once;
  exact = subst (λ (ps : List (ℕ × ℕ)). Met c.args.self.now ps c.loop-pair.outs.items) (take_all c.loop-pair.pair-index c.args.pairs.now (omega arith))
      c.loop-pair.invariant.met;
}
