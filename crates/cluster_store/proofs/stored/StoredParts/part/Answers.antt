-- The part is one of the cluster.
use Rattle.std.proofs.Common.{◌<◌, length, sym, subst}
use Rattle.cluster_store.specs.Stores.{Stored}
use Rattle.cluster_store.proofs.Sizes.{cluster_in_stored}
use Rattle.cluster_store.proofs.stored.StoredParts.part.Goals as goal

pub part-requires : goal.part-requires
part-requires g c = (search cluster_in_stored, subst (λ (s : Stored). c.args.at < length s.cluster.parts) (sym c.self.view_is) c.requires)
