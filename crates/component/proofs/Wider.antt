-- A cluster of at most so many names is one of at most more.
use Rattle.std.proofs.Common.{ℕ, ◌*◌, ◌≤◌, List, le_trans, arith}
use Rattle.std.specs.Prelude.{All}
use Rattle.std.proofs.lemmas.List.Elements.{All-weaker}
use Rattle.cluster.specs.Clusters.{Cluster, IsCluster}

pub IsCluster-wider : (most more : ℕ) (c : Cluster) → most ≤ more → IsCluster most c → IsCluster more c
IsCluster-wider most more c within whole = record {
  some = whole.some;
  few = le_trans whole.few within;
  once = whole.once;
  members = whole.members;
  order = whole.order;
  whole = whole.whole;
  rates = whole.rates;
  picked = whole.picked;
  uncut = whole.uncut;
}

-- at a width that is not 0, there is room for what one word has room for
pub one_word_within : (w : ℕ) → 1 ≤ w → 64 ≤ 64 * w
one_word_within w some = omega (arith, some)

pub IsCluster-widened : (w : ℕ) (c : Cluster) → 1 ≤ w → IsCluster 64 c → IsCluster (64 * w) c
IsCluster-widened w c some whole = IsCluster-wider 64 (64 * w) c (one_word_within w some) whole

pub AreClusters-widened : (w : ℕ) (cs : List Cluster) → 1 ≤ w → All (IsCluster 64) cs → All (IsCluster (64 * w)) cs
AreClusters-widened w cs some whole = All-weaker (IsCluster 64) (IsCluster (64 * w)) (λ c. IsCluster-widened w c some) cs whole
