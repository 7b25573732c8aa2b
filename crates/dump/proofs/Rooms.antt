-- What else fits in memory where a graph does.
use Rattle.std.proofs.Common.{ℕ, ◌+◌, ◌*◌, ◌<◌, ◌≤◌, lit<}

-- how many bytes a graph takes, whatever its width
abbrev pub graph_room : ℕ → ℕ
graph_room w = 1008

-- and one component
abbrev pub cluster_room : ℕ → ℕ
cluster_room w = 200

pub cluster_fits : (w : ℕ) → graph_room w < 9223372036854775808 → cluster_room w < 9223372036854775808
cluster_fits w fits = lit< tt
