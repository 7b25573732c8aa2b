use Rattle.std.proofs.Common.{length, ◌∙◌, ap}
use Rattle.cluster.specs.Clusters.{Cluster}
use Rattle.cluster.specs.Kept.{cut}
use Rattle.cluster.proofs.Parting.{ends_long}
use Rattle.cluster.proofs.cluster.Cluster.part_count.Goals as goal

pub returns : goal.returns
returns g c =
    let ends = c.self.inside.order.parts.items in
    let names = c.self.inside.order.names.items in
    let flows = c.self.inside.order.flows.items in
    c.len.ensures.value ∙ ends_long ends names flows (cut ends names flows) c.self.invariant.ordered.ends ∙ ap (λ (s : Cluster). length s.parts) c.self.view_is
