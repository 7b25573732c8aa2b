-- A cluster that has no part has no order.
use Rattle.std.proofs.Common.{sym, ap, ◌∙◌}
use Rattle.cluster.specs.Clusters.{Cluster}
use Rattle.cluster_store.proofs.Lacking.{counts_none, none_counted, unordered_here}
use Rattle.cluster_store.proofs.unordered.is_unordered.Goals as goal

pub returns-in-Some : goal.returns-in-Some
returns-in-Some g c =
    let s = c.in-Some.stored.now in (
      λ none. (s, sym c.in-Some.ensures, ap (λ (d : Cluster). d.parts) (sym c.cluster.ensures) ∙ counts_none _ c.part_count.result c.part_count.ensures none),
      λ unordered.
          none_counted _ c.part_count.result c.part_count.ensures
          (ap (λ (d : Cluster). d.parts) c.cluster.ensures ∙ unordered_here _ s (sym c.in-Some.ensures) unordered),
    )
