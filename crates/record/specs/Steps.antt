-- The steps of the orders that are made: over the limits there is no order, and none is taken.
use Rattle.std.specs.Prelude.{ℕ, Bool, ◌||◌, nat_lt, List, [], ◌∷◌, length, sum_by, if◌then◌else◌}
use Rattle.graphs.specs.Certificates.{Part}
use Rattle.graphs.specs.Closures.{Closure, rate_of}
use Rattle.graph_model.specs.declared.names.Limits.{Limits}
use Rattle.cluster.specs.Clusters.{Cluster}
use Rattle.cluster.specs.Steps.{most_steps}

-- whether so many names, of this size together, are over the limits
abbrev pub is_over : Limits → ℕ → ℕ → Bool
is_over limits count size = nat_lt limits.count count || nat_lt limits.size size

-- the total size of some names
abbrev pub total_size : Closure → List ℕ → ℕ
total_size g ids = sum_by (λ id. (rate_of g id).size) ids

-- the order of so many names, of this size together, takes at most so many steps
abbrev pub most_steps_within : Limits → ℕ → ℕ → ℕ
most_steps_within limits count size = if is_over limits count size then 0 else most_steps count

-- the same of names of a closure
abbrev pub most_steps_fit : Limits → Closure → List ℕ → ℕ
most_steps_fit limits g ids = most_steps_within limits (length ids) (total_size g ids)

-- what the orders of lists of names take together
abbrev pub most_steps_fit_of : Limits → Closure → List (List ℕ) → ℕ
most_steps_fit_of limits g lists = sum_by (λ ids. most_steps_fit limits g ids) lists

-- where there are parts, an order of so many names takes at most so many steps; where there are none, none is made
abbrev pub most_steps_in : List Part → ℕ → ℕ
most_steps_in [] count = 0
most_steps_in (part ∷ parts) count = most_steps count

-- the same of a component that is ordered anew
abbrev pub most_steps_again : Cluster → ℕ
most_steps_again c = most_steps_in c.parts (length c.names)
