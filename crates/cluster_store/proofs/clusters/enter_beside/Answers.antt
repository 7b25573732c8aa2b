-- What the new cluster has beside the old one is in.
use Rattle.std.proofs.Common.{◌≡◌, Some, is_some, sym, ap, ◌∙◌}
use Rattle.cluster.specs.Clusters.{Cluster}
use Rattle.cluster_store.specs.Kept.{at}
use Rattle.cluster_store.proofs.Results.{on_ok, fresh_same, enters_same}
use Rattle.cluster_store.proofs.Wide.{enter_lacks, enters_beside, keeps_entered}
use Rattle.cluster_store.proofs.Sizes.{cluster_in_stored}
use Rattle.cluster_store.proofs.clusters.enter_beside.Goals as goal

pub enter-requires : goal.enter-requires
enter-requires g c =
    let x = c.args.exchange.now in
    let s = c.at-stored.result.now in
    let is : at c.args.slots.now.slots x.number ≡ Some s = ap (at c.args.slots.now.slots) (sym c.number.ensures) ∙ c.at-stored.ensures in (
      search cluster_in_stored,
      λ k f.
          enter_lacks c.args.slots.now.slots x.number s is x.cluster.parts c.args.index.now c.requires.absent k
          (fresh_same c.number-2.result x.number c.cluster.result.now.parts x.cluster.parts c.cluster-2.result.now.parts s.cluster.parts k c.number-2.ensures
          (ap (λ (y : Cluster). y.parts) c.cluster.ensures) (ap (λ (y : Cluster). y.parts) c.cluster-2.ensures) f),
    )

pub returns-clause-here : goal.returns-clause-here
returns-clause-here g c =
    let x = c.args.exchange.now in
    let s = c.at-stored.result.now in
    let is : at c.args.slots.now.slots x.number ≡ Some s = ap (at c.args.slots.now.slots) (sym c.number.ensures) ∙ c.at-stored.ensures in
    on_ok c.enter.result c.enter.ensures.ok (λ enters.
    enters_beside c.args.slots.now.slots x.number s is x.cluster.parts c.args.index.now c.enter.new.index c.requires.absent
    (enters_same c.number-2.result x.number c.tag.result s.tag c.cluster.result.now.parts x.cluster.parts c.cluster-2.result.now.parts s.cluster.parts
    c.args.index.now c.enter.new.index c.number-2.ensures c.tag.ensures (ap (λ (y : Cluster). y.parts) c.cluster.ensures)
    (ap (λ (y : Cluster). y.parts) c.cluster-2.ensures) enters))

pub returns-clause-others : goal.returns-clause-others
returns-clause-others g c =
    let x = c.args.exchange.now in
    let s = c.at-stored.result.now in
    on_ok c.enter.result c.enter.ensures.ok (λ enters.
    keeps_entered x.number s.tag x.cluster.parts s.cluster.parts c.args.index.now c.enter.new.index
    (enters_same c.number-2.result x.number c.tag.result s.tag c.cluster.result.now.parts x.cluster.parts c.cluster-2.result.now.parts s.cluster.parts
    c.args.index.now c.enter.new.index c.number-2.ensures c.tag.ensures (ap (λ (y : Cluster). y.parts) c.cluster.ensures)
    (ap (λ (y : Cluster). y.parts) c.cluster-2.ensures) enters))

pub returns-clause-err : goal.returns-clause-err
returns-clause-err g c = c.enter.ensures.err

pub at-stored-requires : goal.at-stored-requires
at-stored-requires g c = (search, ap is_some (ap (at c.args.slots.now.slots) c.number.ensures) ∙ c.requires.there)

-- the types fit in memory
pub number-requires : goal.number-requires
number-requires g c = search

pub number-requires-2 : goal.number-requires-2
number-requires-2 g c = search

pub tag-requires : goal.tag-requires
tag-requires g c = search

pub cluster-requires : goal.cluster-requires
cluster-requires g c = (search, search cluster_in_stored)

pub cluster-requires-2 : goal.cluster-requires-2
cluster-requires-2 g c = (search, search cluster_in_stored)
