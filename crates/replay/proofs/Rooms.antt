-- What else fits in memory where a graph does.
use Rattle.std.proofs.Common.{ℕ, ◌+◌, ◌*◌, ◌<◌, ◌≤◌, lit<}

-- how many bytes a graph takes, whatever its width
abbrev pub graph_room : ℕ → ℕ
graph_room w = 1008

-- and one component
abbrev pub cluster_room : ℕ → ℕ
cluster_room w = 200

-- and one with its tag
abbrev pub stored_room : ℕ → ℕ
stored_room w = 216

pub cluster_fits : (w : ℕ) → graph_room w < 9223372036854775808 → cluster_room w < 9223372036854775808
cluster_fits w fits = lit< tt

pub stored_fits : (w : ℕ) → graph_room w < 9223372036854775808 → stored_room w < 9223372036854775808
stored_fits w fits = lit< tt

pub graph_fits : (w : ℕ) → w ≤ 2 → graph_room w < 9223372036854775808
graph_fits w few = lit< tt
