-- What mining would be refused for.
use Rattle.std.proofs.Common.{◌*◌, None, Some, Result, sym, ◌∙◌, subst}
use Rattle.std.specs.Prelude.{MatchResult}
use Rattle.graph_model.specs.declared.names.Refusal.{Refusal}
use Rattle.graph_model.specs.Commands.{Mine}
use Rattle.tx_graph.specs.Restored.{Meets}
use Rattle.tx_graph.proofs.Asked.{asked}
use Rattle.tx_graph.proofs.Calls.{kept_of}
use Rattle.tx_graph.proofs.Mined.{mine_row}
use Rattle.tx_graph.proofs.graph.TxGraph.minable.Goals as goal
use Rattle.tx_graph.proofs.graph.TxGraph.minable.Goals.{in-Some, in-None}

pub returns-clause-row : goal.returns-clause-row
returns-clause-row g c =
    let kept = kept_of (64 * g.row.W) c.self.inside.begun c.self.inside.levels in
    let alone = sym c.is_staged.ensures ∙ c.if-is_staged.false in
    elim c.match-refused_mine.branch [
      | in-Some w ↦
          subst (λ (r : Result Unit Refusal). MatchResult r (λ _. Meets c.args.self.now (Mine c.args.ids.now) None)
          (λ why. Meets c.args.self.now (Mine c.args.ids.now) (Some why))) (sym w.result-is)
          (asked kept c.args.self.now (Mine c.args.ids.now) (Some w.in-Some.why) c.self.view_is
          (mine_row kept c.args.ids.now (Some w.in-Some.why) alone w.in-Some.ensures.row))
      | in-None w ↦
          subst (λ (r : Result Unit Refusal). MatchResult r (λ _. Meets c.args.self.now (Mine c.args.ids.now) None)
          (λ why. Meets c.args.self.now (Mine c.args.ids.now) (Some why))) (sym w.result-is)
          (asked kept c.args.self.now (Mine c.args.ids.now) None c.self.view_is
          (mine_row kept c.args.ids.now None alone w.in-None.ensures.row))
    ]
