use Rattle.std.proofs.Common.{subst}
use Rattle.std.specs.Prelude.{Contains}
use Rattle.graphs.specs.Graphs.{Lists}
use Rattle.cluster.specs.Clusters.{Cluster}
use Rattle.component.proofs.Kept.{narrow_is, wide_is}
use Rattle.component.proofs.component.Component.list_names.Goals as goal

pub returns-in-Narrow-clause-lists : goal.returns-in-Narrow-clause-lists
returns-in-Narrow-clause-lists g c =
    subst (λ (s : Cluster). Lists (λ id. Contains s.names id) c.list_names.new.out.ids)
    (narrow_is c.self.inside.kept c.in-Narrow.cluster c.args.self.now c.in-Narrow.is c.self.view_is) c.list_names.ensures.lists

pub returns-in-Wide-clause-lists : goal.returns-in-Wide-clause-lists
returns-in-Wide-clause-lists g c =
    subst (λ (s : Cluster). Lists (λ id. Contains s.names id) c.list_names-in-Wide.new.out.ids)
    (wide_is c.self.inside.kept c.in-Wide.wide c.deref.result.now c.args.self.now c.in-Wide.is c.self.view_is c.deref.ensures)
    c.list_names-in-Wide.ensures.lists
