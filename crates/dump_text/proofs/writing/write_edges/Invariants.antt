use Rattle.std.proofs.Common.{◌≡◌, ◌++◌, map, flat_map, take}
use Rattle.graph_model.specs.Words.{line_text}
use Rattle.dump_text.specs.Lines.{edge_line_of}
use Rattle.dump_text.proofs.writing.write_edges.Given as goal

-- the lines of the edges so far were added
abbrev pub invariant-loop-edge : goal.invariant-loop-edge
invariant-loop-edge l = l.out.bytes.items ≡ l.fn.out.bytes.items ++ flat_map line_text (map edge_line_of (take l.edge-index l.edges))
