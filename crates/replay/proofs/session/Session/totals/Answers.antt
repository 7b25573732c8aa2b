use Rattle.std.proofs.Common.{◌≡◌, subst, sym, ap, ◌∙◌, lit<}
use Rattle.graphs.specs.declared.names.Level.TheVariants.{Main}
use Rattle.graph_model.specs.States.{State}
use Rattle.levels.specs.Levels.{IsWithin}
use Rattle.tx_graph.specs.Kept as graphs
use Rattle.reorg.specs.Kept.{Kept}
use Rattle.replay.proofs.session.Session.totals.Goals as goal

pub returns : goal.returns
returns g c state stands =
    let same : c.graph.result.now ≡ c.args.self.now.graph = c.graph.ensures.graph ∙ ap (λ (k : Kept). k.graph) c.self.view_is in
    c.main_totals.ensures state (subst (λ (k : graphs.Kept). graphs.StandsFor k state) (sym same) stands.graph)

pub main_totals-requires : goal.main_totals-requires
main_totals-requires g c =
    let same : c.graph.result.now ≡ c.args.self.now.graph = c.graph.ensures.graph ∙ ap (λ (k : Kept). k.graph) c.self.view_is in
    (lit< tt, subst (λ (k : graphs.Kept). IsWithin k.levels Main) (sym same) c.requires)
