-- Limits as C hands them over.
use Rattle.std.specs.Prelude.{ℕ, Bool}
use Rattle.graph_model.specs.declared.names.Limits.{Limits}

abbrev pub limits_with : ℕ → ℕ → ℕ → Bool → Limits
limits_with count size total defer = record { count = count; size = size; total = total; defer = defer }
