-- The cluster of a name stands under its number.
use Rattle.std.proofs.Common.{◌≡◌, Contains, Some, ap, ◌∙◌, subst}
use Rattle.std.specs.Prelude.{IfSome}
use Rattle.std.specs.FinMap as finmap
use Rattle.cluster.specs.Clusters.{Cluster}
use Rattle.levels.specs.Shelves.{Shelf, seen_at}
use Rattle.levels.specs.Views.{Numbers}
use Rattle.levels.proofs.Calls.{shelf_of}
use Rattle.levels.proofs.Standing.{numbers_told, stands_under}
use Rattle.levels.proofs.shelves.Shelves.number.Goals as goal

pub returns-clause-stands : goal.returns-clause-stands
returns-clause-stands g c =
    let old = shelf_of c.self.inside.limits c.self.inside.numbers c.self.inside.store in
    let told = numbers_told c.args.level c.self.inside.limits c.self.inside.numbers c.self.inside.store in
    subst (λ (s : Shelf).
    IfSome c.number_of.result (λ number. (e : Cluster) × (seen_at c.args.level s.store.clusters number ≡ Some e) × Contains e.names c.args.id))
    c.self.view_is
    (stands_under g.row.W c.args.level old c.args.id c.number_of.result c.self.invariant
    (c.number_of.ensures ∙ ap (λ (m : Numbers). finmap.get m c.args.id) told))
