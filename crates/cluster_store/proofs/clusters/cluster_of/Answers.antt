use Rattle.std.proofs.Common.{sym}
use Rattle.cluster_store.proofs.clusters.cluster_of.Goals as goal

pub returns-in-Some : goal.returns-in-Some
returns-in-Some g c = (c.in-Some.stored.now, sym c.in-Some.ensures, c.cluster.ensures)

pub cluster-requires : goal.cluster-requires
cluster-requires g c = (search, search)
