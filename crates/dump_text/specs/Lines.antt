-- The lines of a text.
use Rattle.std.specs.Prelude.{ℕ, ℤ, List}
use Rattle.graph_model.specs.Texts.{tx_line, edge_line}

-- the lines of a transaction and of an edge
abbrev pub tx_line_of : ℕ × ℤ × ℕ → List ℕ
tx_line_of tx = tx_line tx.0 tx.1 tx.2

abbrev pub edge_line_of : ℕ × ℕ → List ℕ
edge_line_of edge = edge_line edge.0 edge.1
