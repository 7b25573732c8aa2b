-- How many steps it takes at most, where a step is a place that a solve begins with, or one that a search takes from its
-- queue. With n places the distance from where something is left to be sent to where something is lacking takes at most
-- n values; while it keeps one, each augmentation uses up one of n · n pairs of places, or settles one of n places
-- (Edmonds and Karp, 1972).
use Rattle.std.specs.Prelude.{ℕ, ◌+◌, ◌*◌, ◌^◌}

-- of all searches within n places: each takes n at most
abbrev pub most_searched : ℕ → ℕ
most_searched n = (n * (n * n) + n + 1) * n

-- of a solve within n places
abbrev pub most_steps : ℕ → ℕ
most_steps n = (n + 2) ^ 4 + (n + 2)
