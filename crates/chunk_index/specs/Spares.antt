-- What counts of the nodes that are kept.
use Rattle.std.specs.Prelude.{ℕ, vec_len, vec_capacity}
use Rattle.chunk_index.specs.declared.spares.Spares.{Spares}

-- how many there are
abbrev pub kept : Spares → ℕ
kept s = vec_len s.nodes

-- for how many there is room without taking memory
abbrev pub room : Spares → ℕ
room s = vec_capacity s.nodes
