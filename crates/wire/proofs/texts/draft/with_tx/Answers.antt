use Rattle.std.proofs.Common.{◌≡◌, ap, length, vec_len, eq-eqb, arith}
use Rattle.wire.specs.Rows.{tx_row}
use Rattle.wire.proofs.StageLemmas.{AtGraph, put_refuses, tx_after_edges}
use Rattle.wire.proofs.texts.draft.with_tx.Goals as goal

pub returns-then-not-is_empty : goal.returns-then-not-is_empty
returns-then-not-is_empty c =
    let txs = c.args.txs.items in
    let edges = c.args.edges.items in
    put_refuses (AtGraph txs edges) (tx_row c.args.tx) (tx_after_edges txs edges c.args.tx (λ none.
    let n : vec_len c.args.edges ≡ 0 = omega (arith, ap length none, c.args.edges.ok.0) in
    let empty = eq-eqb (vec_len c.args.edges) 0 n in
    let h = c.is_empty.ensures in
    let k = c.if-not-is_empty.true in cc))
