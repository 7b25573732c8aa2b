use Rattle.std.proofs.Common.{ap}
use Rattle.wire.proofs.StageLemmas.{AtGraph, put, put_refuses}
use Rattle.wire.proofs.texts.draft.after_graph.Goals as goal

pub returns-in-Flow : goal.returns-in-Flow
returns-in-Flow c = let stage = AtGraph c.args.txs.items c.args.edges.items in put_refuses stage c.args.row (ap (put stage) c.in-Flow.is)
