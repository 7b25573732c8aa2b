use Rattle.std.proofs.Common.{ℕ, List, nat_eq, sym, ◌∙◌, subst, arith}
use Rattle.std.specs.HashSet as bag
use Rattle.std.proofs.lemmas.List.{take_all}
use Rattle.links.specs.Leaving.{NoneEnters}
use Rattle.links.proofs.Bridging.{enters_next}
use Rattle.links.proofs.leaving.some_enter.Goals as goal

pub loop-pair-preserved : goal.loop-pair-preserved
loop-pair-preserved c =
    enters_next (bag.contains nat_eq c.args.gone.now) c.args.pairs.now c.loop-pair.pair-index c.loop-pair-test.true c.loop-pair.invariant
    (sym c.enters.ensures ∙ c.if-enters.false)

pub returns : goal.returns
returns c h =
    subst (λ (l : List (ℕ × ℕ)). NoneEnters (bag.contains nat_eq c.args.gone.now) l) (take_all c.loop-pair.pair-index c.args.pairs.now (omega arith))
    c.loop-pair.invariant
