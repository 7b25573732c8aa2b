use Rattle.std.proofs.Common.{ℕ, List, subst, arith}
use Rattle.std.specs.Prelude.{Contains, ◌↔◌}
use Rattle.std.proofs.lemmas.List.{take_all}
use Rattle.links.proofs.Pairing.{first_more}
use Rattle.links.proofs.pairs.each_once.Goals as goal

pub loop-pair-preserved : goal.loop-pair-preserved
loop-pair-preserved c = record {
  lists = c.in_ok-put.ensures.lists;
  first = first_more c.args.pairs.now c.loop-pair.list.items c.put.new.list.items c.loop-pair.pair-index c.loop-pair-test.true
      c.loop-pair.invariant.first c.in_ok-put.ensures.more;
}

pub returns-clause-same : goal.returns-clause-same
returns-clause-same c a b =
    subst (λ (l : List (ℕ × ℕ)). Contains {X = ℕ × ℕ} c.loop-pair.list.items (a, b) ↔ Contains {X = ℕ × ℕ} l (a, b))
    (take_all c.loop-pair.pair-index c.args.pairs.now (omega arith)) (c.loop-pair.invariant.first (a, b))
