use Rattle.std.proofs.Common.{◌+◌, List, ℕ, take, get_or, subst, ◌∙◌, arith}
use Rattle.std.proofs.lemmas.List.{take_all, take_more}
use Rattle.record.specs.Parents.{ArePairsAbove}
use Rattle.record.proofs.Parenting.{pairs_more}
use Rattle.record.proofs.over.pairs_of.Goals as goal

pub loop-at-preserved : goal.loop-at-preserved
loop-at-preserved g c =
    pairs_more c.args.component.now.graph (take c.loop-at.at c.names-names.result.now) (take (c.loop-at.at + 1) c.names-names.result.now)
    (get_or c.names-names.result.now c.loop-at.at 0) c.loop-at.pairs.items c.add_parents.new.pairs.items c.loop-at.invariant c.in_ok-add_parents.ensures
    (take_more c.names-names.result.now c.loop-at.at 0 c.loop-at-test.true)

pub returns : goal.returns
returns g c =
    subst (λ (xs : List ℕ). ArePairsAbove c.args.component.now.graph xs c.loop-at.pairs.items)
    (take_all c.loop-at.at c.names-names.result.now (omega (arith, c.loop-at-test.false)) ∙ c.names-names.ensures.names) c.loop-at.invariant
