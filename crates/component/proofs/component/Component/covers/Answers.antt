use Rattle.std.proofs.Common.{ℕ, List, flat_map, sym, subst}
use Rattle.graphs.specs.Closures.{IsCover}
use Rattle.graphs.specs.Certificates.{Part}
use Rattle.cluster.specs.Clusters.{Cluster}
use Rattle.cluster.specs.Covers.{ListsInOrder}
use Rattle.component.proofs.Kept.{narrow_is, wide_is}
use Rattle.component.proofs.component.Component.covers.Goals as goal

pub returns-in-Narrow : goal.returns-in-Narrow
returns-in-Narrow g c =
    subst (λ (ids : List ℕ). ListsInOrder (λ a. IsCover c.args.self.now.graph a c.args.id)
    (flat_map (λ (part : Part). part.ids) c.args.self.now.parts) ids) (sym c.narrow.ensures)
    (subst (λ (s : Cluster). ListsInOrder (λ a. IsCover s.graph a c.args.id) (flat_map (λ (part : Part). part.ids) s.parts) c.covers.result)
    (narrow_is c.self.inside.kept c.in-Narrow.cluster c.args.self.now c.in-Narrow.is c.self.view_is) c.covers.ensures)

pub returns-in-Wide : goal.returns-in-Wide
returns-in-Wide g c =
    subst (λ (ids : List ℕ). ListsInOrder (λ a. IsCover c.args.self.now.graph a c.args.id)
    (flat_map (λ (part : Part). part.ids) c.args.self.now.parts) ids) (sym c.wide.ensures)
    (subst (λ (s : Cluster). ListsInOrder (λ a. IsCover s.graph a c.args.id) (flat_map (λ (part : Part). part.ids) s.parts) c.covers-in-Wide.result)
    (wide_is c.self.inside.kept c.in-Wide.wide c.deref.result.now c.args.self.now c.in-Wide.is c.self.view_is c.deref.ensures) c.covers-in-Wide.ensures)
