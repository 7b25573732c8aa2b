-- Components that stay within the limits, or over them.
use Rattle.std.proofs.Common.{◌≡◌, ◌<◌, ℕ, List, [], length, sym, ap, ◌∙◌, subst, inl, inr}
use Rattle.std.specs.Prelude.{Contains, sum_by}
use Rattle.arithmetic.proofs.Sums.{sum_by_along}
use Rattle.graphs.specs.Closures.{rate_of}
use Rattle.graph_model.specs.declared.names.Limits.{Limits}
use Rattle.cluster.specs.Clusters.{Cluster, IsCluster}
use Rattle.record.specs.Records.{IsConnected, IsFitted, IsOver}
use Rattle.record.proofs.Connected.{IsCluster-connected}
use Rattle.record.proofs.Ordered.{has_parts}

abbrev pub size_in : Cluster → ℕ → ℕ
size_in c id = (rate_of c.graph id).size

-- the same names with the same sizes
pub over_along : (limits : Limits) (c d : Cluster) → d.names ≡ c.names → ((id : ℕ) → Contains c.names id → size_in d id ≡ size_in c id)
    → IsOver limits c → IsOver limits d
over_along limits c d names sizes (inl many) = inl (subst (λ (xs : List ℕ). limits.count < length xs) (sym names) many)
over_along limits c d names sizes (inr large) =
    inr (subst (λ n. limits.size < n)
    (sym (sum_by_along (size_in d) (size_in c) c.names sizes) ∙ ap (sum_by (size_in d)) (sym names)) large)

-- one with its order
pub fitted_within : (most : ℕ) (limits : Limits) (c d : Cluster) → IsFitted most limits c → IsCluster most c → IsCluster most d
    → (IsOver limits d → IsOver limits c) → IsFitted most limits d
fitted_within most limits c d fitted was is back = record {
  connected = IsCluster-connected most d is;
  within = λ _. is;
  over = λ o. absurd (has_parts most c was (fitted.over (back o)));
}

-- one without
pub fitted_over : (most : ℕ) (limits : Limits) (c d : Cluster) → IsFitted most limits c → c.parts ≡ [] → d.parts ≡ [] → IsConnected d
    → (IsOver limits c → IsOver limits d) → IsFitted most limits d
fitted_over most limits c d fitted none none' connected on = record {
  connected = connected;
  within = λ not_over. absurd (has_parts most c (fitted.within (λ o. not_over (on o))) none);
  over = λ _. none';
}
