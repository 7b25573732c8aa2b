-- A cluster that has no part has no order.
use Rattle.std.proofs.Common.{◌≡◌, true, sym, ap, ◌∙◌}
use Rattle.chunk_index.specs.Items.{is_in}
use Rattle.cluster.specs.Clusters.{Cluster}
use Rattle.cluster_store.proofs.Lacking.{counts_none, none_counted, lacks_here, stands_in}
use Rattle.cluster_store.proofs.unordered.stands_unordered.Goals as goal

pub returns-then-is_in : goal.returns-then-is_in
returns-then-is_in g c =
    let s = c.in-Some.stored.now in
    let there : is_in c.args.level s.tag ≡ true = ap (is_in c.args.level) (sym c.tag.ensures) ∙ sym c.is_in.ensures ∙ c.if-is_in.true in (
      λ none. (
        s.cluster,
        stands_in c.args.level _ s (sym c.in-Some.ensures) there,
        ap (λ (d : Cluster). d.parts) (sym c.cluster.ensures) ∙ counts_none _ c.part_count.result c.part_count.ensures none,
      ),
      λ lacks.
          none_counted _ c.part_count.result c.part_count.ensures
          (ap (λ (d : Cluster). d.parts) c.cluster.ensures ∙ lacks_here c.args.level _ s (sym c.in-Some.ensures) lacks),
    )
