use Rattle.std.proofs.Common.{ℕ, List, ◌*◌, ◌↔◌, subst}
use Rattle.std.proofs.lemmas.List.{take_all}
use Rattle.graphs.specs.Unions.{IsKinOfSome}
use Rattle.cluster.specs.Changes.{IsChosen}
use Rattle.cluster.specs.Named.{named}
use Rattle.cluster.proofs.Kins.{kin_of_none, kin_of_more}
use Rattle.cluster.proofs.kin.kin_places.Goals as goal

pub loop-at-init : goal.loop-at-init
loop-at-init g c = kin_of_none c.args.kin c.args.names.now c.args.dep.now c.args.ids.now c.empty-chosen.result c.empty-chosen.ensures

pub loop-at-preserved : goal.loop-at-preserved
loop-at-preserved g c =
    kin_of_more (64 * g.row.W) c.args.names.now c.args.dep.now c.requires.named c.args.kin c.args.ids.now c.loop-at.at c.place_of-place.result
    c.loop-at.chosen c.kin_of.result c.union-chosen.result c.loop-at-test.true
    (record { low = c.place_of-place.ensures.within; here = c.place_of-place.ensures.here })
    c.kin_of.ensures c.union-chosen.ensures c.loop-at.invariant

pub returns-clause-exact : goal.returns-clause-exact
returns-clause-exact g c a =
    subst (λ (xs : List ℕ). IsChosen c.args.names.now c.loop-at.chosen a ↔ IsKinOfSome c.args.kin (named c.args.names.now c.args.dep.now) xs a)
    (take_all c.loop-at.at c.args.ids.now c.loop-at-test.false) (c.loop-at.invariant.exact a)
