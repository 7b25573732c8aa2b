use Rattle.std.proofs.Common.{◌∙◌}
use Rattle.dump.proofs.Dumped.{steps_dumped}
use Rattle.dump.proofs.dumping.main_text.Goals as goal

pub returns-in-Ok : goal.returns-in-Ok
returns-in-Ok g c = (
  record { txs = c.sort_txs.new.txs.items; edges = c.sort_edges.new.edges.items },
  steps_dumped c.args.graph.now c.count-count.result c.in_ok-lists.lists.txs.items c.sort_txs.new.txs.items c.in_ok-lists.lists.edges.items
      c.sort_edges.new.edges.items c.requires c.count-count.ensures c.in_ok-lists.ensures c.sort_txs.ensures.same c.sort_txs.ensures.rises
      c.sort_edges.ensures.same c.sort_edges.ensures.rises,
  c.from_vec.ensures ∙ c.in-Ok.ensures,
)
