-- The last cluster is the only one of the list.
use Rattle.std.proofs.Common.{List, [], Contains, sym, ap, ◌∙◌, subst}
use Rattle.std.specs.Prelude.{option_to_list}
use Rattle.lists.proofs.Entries.{Contains-head, Contains-one}
use Rattle.cluster.specs.Clusters.{Cluster}
use Rattle.cluster_store.proofs.Lacking.{counts_none, none_counted}
use Rattle.cluster_store.proofs.unordered.is_last_unordered.Goals as goal

pub returns-in-Some : goal.returns-in-Some
returns-in-Some g c =
    let one = c.in-Some.cluster in (
      λ none. (
        one,
        subst (λ (cs : List Cluster). Contains cs one) (sym (ap option_to_list c.in-Some.is)) (Contains-head one []),
        counts_none _ c.part_count.result c.part_count.ensures none,
      ),
      λ (d, here, none).
          none_counted _ c.part_count.result c.part_count.ensures
          (ap (λ (e : Cluster). e.parts) (Contains-one one d (subst (λ (cs : List Cluster). Contains cs d) (ap option_to_list c.in-Some.is) here)) ∙ none),
    )
