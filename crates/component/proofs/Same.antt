-- What is said of a join of two clusters is said of the join of the same two, whatever holds them.
use Rattle.std.proofs.Common.{◌≡◌, ℕ, ◌+◌, ◌<◌, ◌≤◌, ◌++◌, length, subst}
use Rattle.std.specs.Prelude.{Result, IfOk}
use Rattle.cluster.specs.Clusters.{Cluster, AreApart}
use Rattle.cluster.specs.Changes.{AreAcross, Joins}

module _ (f g s t : Cluster) (first : f ≡ g) (second : s ≡ t) where
  both : (P : Cluster → Cluster → Type 0) → P f s → P g t
  both P h = subst (λ (x : Cluster). P x t) first (subst (λ (x : Cluster). P f x) second h)

  pub join_few : (most : ℕ) → length f.names + length s.names ≤ most → length g.names + length t.names ≤ most
  join_few most h = both (λ x y. length x.names + length y.names ≤ most) h

  pub join_large : (least : ℕ) → least < length f.names + length s.names → least < length g.names + length t.names
  join_large least h = both (λ x y. least < length x.names + length y.names) h

  pub join_apart : AreApart f s → AreApart g t
  join_apart h = both AreApart h

  pub join_across : (parent child : ℕ) → AreAcross f.names s.names parent child → AreAcross g.names t.names parent child
  join_across parent child h = both (λ x y. AreAcross x.names y.names parent child) h

  pub join_names : {E : Type 0} (r : Result Cluster E) → IfOk r (λ (c : Cluster). c.names ≡ f.names ++ s.names)
      → IfOk r (λ (c : Cluster). c.names ≡ g.names ++ t.names)
  join_names r h = both (λ x y. IfOk r (λ (c : Cluster). c.names ≡ x.names ++ y.names)) h

  pub join_graph : {E : Type 0} (r : Result Cluster E) (parent child : ℕ) → IfOk r (λ (c : Cluster). Joins f.graph s.graph parent child c.graph)
      → IfOk r (λ (c : Cluster). Joins g.graph t.graph parent child c.graph)
  join_graph r parent child h = both (λ x y. IfOk r (λ (c : Cluster). Joins x.graph y.graph parent child c.graph)) h
