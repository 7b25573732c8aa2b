use Rattle.std.proofs.Common.{◌≡◌, ◌++◌, map, flat_map, take}
use Rattle.graph_model.specs.Words.{line_text}
use Rattle.dump_text.specs.Lines.{tx_line_of}
use Rattle.dump_text.proofs.writing.write_txs.Given as goal

-- the lines of the transactions so far were added
abbrev pub invariant-loop-tx : goal.invariant-loop-tx
invariant-loop-tx l = l.out.bytes.items ≡ l.fn.out.bytes.items ++ flat_map line_text (map tx_line_of (take l.tx-index l.txs))
