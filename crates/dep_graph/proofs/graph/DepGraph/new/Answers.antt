use Rattle.std.proofs.Common.{ap, ◌∙◌, ◌*◌}
use Rattle.dep_graph.specs.Rows.{graph_from}
use Rattle.dep_graph.proofs.Kept.{graph_from-empty, IsKept-empty}
use Rattle.dep_graph.proofs.graph.DepGraph.new.Goals as goal

pub invariant_of-result : goal.invariant_of-result
invariant_of-result g c = rw (c.empty.ensures, c.new.ensures.items) (IsKept-empty (64 * g.row.W))

pub returns : goal.returns
returns g c = ap (λ m. graph_from (64 * g.row.W) m c.new.result.items) c.empty.ensures ∙ graph_from-empty (64 * g.row.W) c.new.result.items
