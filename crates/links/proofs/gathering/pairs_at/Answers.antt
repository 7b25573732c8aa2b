use Rattle.std.proofs.Common.{ℕ, List, [], subst, arith}
use Rattle.std.proofs.lemmas.List.{take_all}
use Rattle.std.proofs.lemmas.List.Elements.{Contains-get_or}
use Rattle.links.specs.Leaving.{Adds}
use Rattle.links.specs.Gathering.{IsFromOne}
use Rattle.links.proofs.Chosen.{from_next}
use Rattle.links.proofs.gathering.pairs_at.Goals as goal

pub put_pairs-requires-clause-place : goal.put_pairs-requires-clause-place
put_pairs-requires-clause-place c = c.requires.within _ (Contains-get_or c.args.places.now c.loop-place.place-index 0 c.loop-place-test.true)

pub loop-place-preserved : goal.loop-place-preserved
loop-place-preserved c =
    from_next c.args.ways.now.steps.items c.args.pairs.now c.loop-place.list.items c.put_pairs.new.list.items c.args.places.now c.loop-place.place-index
    c.loop-place-test.true c.loop-place.invariant c.in_ok-put_pairs.ensures

pub returns : goal.returns
returns c =
    subst (λ (l : List ℕ). Adds (IsFromOne c.args.ways.now.steps.items c.args.pairs.now l) [] c.loop-place.list.items)
    (take_all c.loop-place.place-index c.args.places.now (omega arith)) c.loop-place.invariant
