use Rattle.std.proofs.Common.{◌≡◌, sym, ap, ◌∙◌}
use Rattle.graph_model.specs.declared.names.Limits.{Limits}
use Rattle.graph_model.specs.Limits.{bounds_of}
use Rattle.tx_graph.specs.Kept as graphs
use Rattle.desk.proofs.reading.limits_of.Goals as goal

pub returns : goal.returns
returns c = λ state stands.
    let told : c.limits.result ≡ c.args.desk.now.pool.graph.levels.limits =
    c.limits.ensures ∙ ap (λ (g : graphs.Kept). g.levels.limits) c.graph.ensures in
    stands.graph.plain.limits ∙ ap (λ (l : Limits). bounds_of l) (sym told)
