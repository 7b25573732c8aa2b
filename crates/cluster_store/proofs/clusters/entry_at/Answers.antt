-- The part is one of the cluster that is stored there.
use Rattle.cluster_store.proofs.Entered.{none_below, stored_key, stored_low}
use Rattle.cluster_store.proofs.Sizes.{cluster_in_stored}
use Rattle.cluster_store.proofs.clusters.entry_at.Goals as goal

pub cluster-requires : goal.cluster-requires
cluster-requires g c = (search, search cluster_in_stored)

pub entry_of-requires : goal.entry_of-requires
entry_of-requires g c = (
  search cluster_in_stored,
  stored_low c.in-Some.stored.now c.args.place c.cluster.result.now c.in-Some.ensures c.cluster.ensures c.requires,
)

pub unreachable-requires : goal.unreachable-requires
unreachable-requires g c = none_below c.in-None.ensures c.requires

pub returns : goal.returns
returns g c = stored_key c.in-Some.stored.now c.args.place c.cluster.result.now c.in-Some.ensures c.cluster.ensures c.requires c.entry_of.ensures.key
