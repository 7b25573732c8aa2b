-- What suits some limits.
use Rattle.std.proofs.Common.{ℕ}
use Rattle.cluster.specs.Clusters.{Cluster}
use Rattle.graph_model.specs.declared.names.Limits.{Limits}
use Rattle.record.specs.Records.{IsFitted, IsRecord}

-- one that suits some limits is a record
pub fitted_record : (most : ℕ) (limits : Limits) (c : Cluster) → IsFitted most limits c → IsRecord most c
fitted_record most limits c fitted = record {
  connected = fitted.connected;
  ordered = λ some. fitted.within (λ over. some (fitted.over over));
}
