-- It is there.
use Rattle.std.proofs.Common.{sym}
use Rattle.cluster_store.proofs.Missing.{none_there}
use Rattle.cluster_store.proofs.clusters.at.Goals as goal

pub unreachable-requires : goal.unreachable-requires
unreachable-requires g c = none_there (sym c.in-None.ensures) c.requires

pub returns : goal.returns
returns g c = sym c.in-Some.ensures
