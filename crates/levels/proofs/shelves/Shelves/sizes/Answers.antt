-- The cluster of a run has a number, and all names that the number has.
use Rattle.std.proofs.Common.{IsSome, length, sym, ap, subst, refl, ◌∙◌, arith}
use Rattle.std.proofs.lemmas.Option.{same_Some}
use Rattle.cluster.specs.Clusters.{Cluster}
use Rattle.levels.proofs.Kins.{one_long, run_held}
use Rattle.levels.proofs.shelves.Shelves.sizes.Goals as goal

pub at-requires : goal.at-requires
at-requires g c =
    let (d, seen, stored, names) = run_held g.row.W c.args.level c.args.self.now c.requires.order c.args.run.ids.now c.args.run.rest.now c.args.run.number
    c.in-Some.number c.requires.run c.in-Some.is in
    (omega arith, (omega arith, subst IsSome (sym stored) refl))

pub returns-in-Some-clause-many : goal.returns-in-Some-clause-many
returns-in-Some-clause-many g c =
    let (d, seen, stored, names) = run_held g.row.W c.args.level c.args.self.now c.requires.order c.args.run.ids.now c.args.run.rest.now c.args.run.number
    c.in-Some.number c.requires.run c.in-Some.is in
    ap length c.names.ensures.names
    ∙ ap (λ (x : Cluster). length x.names) (same_Some c.at.result.now d (sym c.at.ensures ∙ stored))
    ∙ sym (one_long g.row.W c.args.level c.args.self.now c.requires.order c.args.run.number c.in-Some.number d c.in-Some.is seen)
