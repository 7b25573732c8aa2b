use Rattle.std.proofs.Common.{ℕ, nat_eq, List, [], get_or, sym, ◌∙◌, subst, arith}
use Rattle.std.specs.HashSet as bag
use Rattle.std.proofs.lemmas.List.{take_all}
use Rattle.std.proofs.lemmas.List.Elements.{Contains-get_or}
use Rattle.links.specs.Links.{Links, Has}
use Rattle.links.specs.Leaving.{Adds, Crosses, CrossesOne}
use Rattle.links.proofs.Bridging.{crosses_more}
use Rattle.links.proofs.leaving.bridged.Goals as goal

pub carry-requires : goal.carry-requires
carry-requires c =
    let pairs = c.args.pairs.now in
    let x : ℕ × ℕ = get_or pairs c.loop-pair.pair-index (0, 0) in
    subst (λ (l : Links). Has l x.0) (sym c.loop-pair.invariant.same)
    (c.requires x.0 x.1 (Contains-get_or pairs c.loop-pair.pair-index (0, 0) c.loop-pair-test.true))

pub loop-pair-preserved : goal.loop-pair-preserved
loop-pair-preserved c =
    let pairs = c.args.pairs.now in
    let x : ℕ × ℕ = get_or pairs c.loop-pair.pair-index (0, 0) in
    record {
      same = c.in_ok-carry.ensures.same ∙ c.loop-pair.invariant.same;
      adds = crosses_more (bag.contains nat_eq c.args.gone.now) c.args.inner.now.pairs pairs c.loop-pair.pair-index c.loop-pair.list.items
          c.carry.new.list.items c.loop-pair-test.true c.loop-pair.invariant.adds
          (subst (λ (l : Links). Adds (Crosses (bag.contains nat_eq c.args.gone.now) l.pairs x.0 x.1) c.loop-pair.list.items c.carry.new.list.items)
          c.loop-pair.invariant.same c.in_ok-carry.ensures.adds);
    }

pub returns : goal.returns
returns c =
    subst (λ (l : List (ℕ × ℕ)). Adds (CrossesOne (bag.contains nat_eq c.args.gone.now) c.args.inner.now.pairs l) [] c.loop-pair.list.items)
    (take_all c.loop-pair.pair-index c.args.pairs.now (omega arith)) c.loop-pair.invariant.adds
