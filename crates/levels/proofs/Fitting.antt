-- The steps of the order of a cluster, by its names in the graph of a level: none where it is over the limits.
use Rattle.std.proofs.Common.{◌≡◌, ℕ, Bool, true, false, List, length, cond, refl, sym, ap, ap₂, ◌∙◌, inl, inr, ◌⊎◌, true≢false}
use Rattle.graphs.specs.Certificates.{Part}
use Rattle.graphs.specs.Closures.{Closure}
use Rattle.graph_model.specs.declared.names.Limits.{Limits}
use Rattle.cluster.specs.Clusters.{Cluster}
use Rattle.cluster.specs.Steps.{most_steps}
use Rattle.record.specs.Records.{IsFitted, IsOver}
use Rattle.record.specs.Steps.{is_over, most_steps_again, most_steps_fit, most_steps_in, most_steps_within, total_size}
use Rattle.record.proofs.Fewer.{over_tells}
use Rattle.record.proofs.Sized.{again_is}

-- it is over the limits, or within them
pub over_or_within : (limits : Limits) (c : Cluster) → IsOver limits c ⊎ (IsOver limits c → ⊥)
over_or_within limits c = by (is_over limits (length c.names) (total_size c.graph c.names)) refl
  where
    by : (b : Bool) → is_over limits (length c.names) (total_size c.graph c.names) ≡ b → IsOver limits c ⊎ (IsOver limits c → ⊥)
    by true is = inl ((over_tells limits (length c.names) (total_size c.graph c.names)).0 is)
    by false is = inr (λ over. true≢false (sym ((over_tells limits (length c.names) (total_size c.graph c.names)).1 over) ∙ is))

-- a new order of a cluster takes as many steps as one of as many names of that size
again_within : (most : ℕ) (limits : Limits) (c : Cluster) → IsFitted most limits c
    → most_steps_again c ≡ most_steps_within limits (length c.names) (total_size c.graph c.names)
again_within most limits c fitted = by (is_over limits (length c.names) (total_size c.graph c.names)) refl
  where
    by : (b : Bool) → is_over limits (length c.names) (total_size c.graph c.names) ≡ b
        → most_steps_again c ≡ most_steps_within limits (length c.names) (total_size c.graph c.names)
    by true is =
        ap (λ (parts : List Part). most_steps_in parts (length c.names))
        (fitted.over ((over_tells limits (length c.names) (total_size c.graph c.names)).0 is))
        ∙ ap (λ (b : Bool). cond b 0 (most_steps (length c.names))) (sym is)
    by false is =
        again_is most c (fitted.within
        (λ over. true≢false (sym ((over_tells limits (length c.names) (total_size c.graph c.names)).1 over) ∙ is)))
        ∙ ap (λ (b : Bool). cond b 0 (most_steps (length c.names))) (sym is)

-- told by the names as the level lists them
pub again_fits : (most : ℕ) (limits : Limits) (g : Closure) (c : Cluster) (ids : List ℕ) → IsFitted most limits c → length ids ≡ length c.names
    → total_size g ids ≡ total_size c.graph c.names → most_steps_again c ≡ most_steps_fit limits g ids
again_fits most limits g c ids fitted count size =
    again_within most limits c fitted ∙ ap₂ (most_steps_within limits) (sym count) (sym size)
