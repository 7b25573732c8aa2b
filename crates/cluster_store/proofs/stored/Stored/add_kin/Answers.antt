-- What is asked of the cluster that is stored.
use Rattle.std.proofs.Common.{ℕ, ◌≤◌, length, Contains, arith, sym, ap, subst}
use Rattle.cluster.specs.Clusters.{Cluster}
use Rattle.cluster_store.specs.Stores.{Stored}
use Rattle.cluster_store.proofs.stored.Stored.add_kin.Goals as goal

pub add_kin-requires : goal.add_kin-requires
add_kin-requires g c =
    let is = sym (ap (λ (s : Stored). s.cluster) c.self.view_is) in (
      omega arith,
      (
        subst (λ (x : Cluster). (id : ℕ) → Contains c.args.ids.now id → Contains x.names id) is c.requires.ids,
        subst (λ (x : Cluster). length x.names ≤ c.args.out.now.room) is c.requires.room,
      ),
    )
