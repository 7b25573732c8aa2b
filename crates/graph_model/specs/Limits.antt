-- The limits within which a transaction graph works. Sizes are in virtual bytes.
use Rattle.std.specs.Prelude.{ℕ, ◌<◌, ◌≤◌, ◌⊎◌, Bool, List, length, sum_by, refl}
use Rattle.std.specs.Coded.{Coded, code_by, coded×, coded_ℕ, coded_bool}
use Rattle.fee_rate.specs.declared.limits.TheConstants.{MAX_TOTAL}
use Rattle.graph_model.specs.declared.names.Limits.{Limits}
use Rattle.graph_model.specs.declared.limits.TheConstants.{MAX_CLUSTER_SIZE, DEFAULT_LIMITS}

-- What is in force: the most names and the greatest total size of a cluster, the most live names, and whether a dependency may bring a
-- cluster over the first two for a while.
pub record Bounds : Type 0 where
  pub count : ℕ
  pub size : ℕ
  pub total : ℕ
  pub defer : Bool

-- the same of the limits that Rust has
abbrev pub bounds_of : Limits → Bounds
bounds_of limits = record { count = limits.count; size = limits.size; total = limits.total; defer = limits.defer }

abbrev pub limits_code : Coded Limits
limits_code =
    code_by (ℕ × (ℕ × (ℕ × Bool))) (coded× coded_ℕ (coded× coded_ℕ (coded× coded_ℕ coded_bool)))
    (λ l. (l.count, (l.size, (l.total, l.defer))))
    (λ p. record { count = p.0; size = p.1.0; total = p.1.1.0; defer = p.1.1.1 }) (λ _. refl)

-- the limits that may be set where a cluster may be allowed so many names
pub record AreInRange (most : ℕ) (bounds : Bounds) : Type 0 where
  pub count_low : 1 ≤ bounds.count
  pub count_high : bounds.count ≤ most
  pub size_low : 1 ≤ bounds.size
  pub size_high : bounds.size ≤ MAX_CLUSTER_SIZE
  pub total_low : 1 ≤ bounds.total
  pub total_high : bounds.total ≤ MAX_TOTAL

-- these names are more, or larger together, than those of a cluster may be
abbrev pub AreOver : Bounds → (ℕ → ℕ) → List ℕ → Type 0
AreOver bounds size ids = (bounds.count < length ids) ⊎ (bounds.size < sum_by size ids)

-- the limits at the start
abbrev pub default_limits : Bounds
default_limits = bounds_of DEFAULT_LIMITS
