-- Graphs numbered anew.
use Rattle.std.specs.Prelude.{ℕ, suc, ◌+◌, cond, nat_eq, List, [], ◌∷◌}
use Rattle.graphs.specs.Graphs.{Graph}
use Rattle.graphs.specs.Closing.{renamed}

-- where p stands first in the list
abbrev pub number_in : List ℕ → ℕ → ℕ
number_in [] p = 0
number_in (x ∷ xs) p = cond (nat_eq p x) 0 (suc (number_in xs p))

-- the graph with the number of each name, from `first` on, in place of it
abbrev pub renumbered : List ℕ → ℕ → Graph → Graph
renumbered xs first graph = renamed (λ p. first + number_in xs p) graph
