use Rattle.std.proofs.Common.{◌<◌, lit<}
use Rattle.cluster.proofs.Rooms.{cluster_room}
use Rattle.cluster.proofs.list.ClusterListIntoIterator.into_iter.Goals as goal

pub into_vec-requires : goal.into_vec-requires
into_vec-requires g c = let fits : cluster_room g.row.W < 9223372036854775808 = search in (lit< tt, fits)
