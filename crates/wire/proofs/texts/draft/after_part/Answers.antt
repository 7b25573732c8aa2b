use Rattle.std.proofs.Common.{◌∙◌, ap, map}
use Rattle.graphs.specs.Certificates.{Part}
use Rattle.certificate.specs.Parts.{part_of}
use Rattle.wire.specs.Drafts.{open_part}
use Rattle.wire.specs.declared.texts.row.Row.TheVariants as rows
use Rattle.wire.proofs.StageLemmas.{AtParts, rows_at, put_refuses, part_refuses, next_rows, flow_rows}
use Rattle.wire.proofs.texts.draft.after_part.Goals as goal

pub returns-in-Ok : goal.returns-in-Ok
returns-in-Ok c =
    let graph = c.args.graph in
    let parts = map part_of c.in-Ok.parts.items in
    let opened = rows.Chunk c.in-Chunk.rate c.in-Chunk.ids in
    ap (λ (part : Part). rows_at (AtParts graph.txs graph.edges parts part)) c.new.ensures
    ∙ next_rows graph.txs graph.edges (map part_of c.args.parts.items) parts (open_part c.args.last) c.args.row opened c.in-Ok.ensures c.in-Chunk.is

pub returns-in-Ok-with_flow : goal.returns-in-Ok-with_flow
returns-in-Ok-with_flow c =
    let graph = c.args.graph in
    let last = c.in-Ok-with_flow.last in
    flow_rows graph.txs graph.edges (map part_of c.args.parts.items) (open_part c.args.last)
    (open_part last) c.in-Flow.flow c.args.row c.in-Ok-with_flow.ensures c.in-Flow.is

pub returns-in-Ok-with_part : goal.returns-in-Ok-with_part
returns-in-Ok-with_part c =
    let graph = c.args.graph in
    let parts = map part_of c.in-Ok-with_part.parts.items in
    c.ended.ensures ∙ next_rows graph.txs graph.edges (map part_of c.args.parts.items) parts
    (open_part c.args.last) c.args.row rows.End c.in-Ok-with_part.ensures c.in-End.is

pub returns-in-Tx : goal.returns-in-Tx
returns-in-Tx c =
    let txs = c.args.graph.txs in
    let edges = c.args.graph.edges in
    let parts = map part_of c.args.parts.items in
    put_refuses (AtParts txs edges parts (open_part c.args.last)) c.args.row (part_refuses txs edges parts (open_part c.args.last) c.args.row c.in-Tx.is)
