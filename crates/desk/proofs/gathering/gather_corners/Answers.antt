use Rattle.std.proofs.Common.{inl, inr, refl, ◌∙◌}
use Rattle.graph_model.specs.Commands as commands
use Rattle.desk.proofs.PoolLemmas.{refused_over}
use Rattle.desk.proofs.gathering.gather_corners.Goals as goal

pub returns-then-oversized : goal.returns-then-oversized
returns-then-oversized c = inr (
    refused_over c.args.graph.now (commands.Diagram c.args.level) c.args.level (λ state over. inl (over, refl))
    (λ state stands. (c.oversized.ensures.state state stands).0 c.if-oversized.true)
    )

pub returns-in-Ok : goal.returns-in-Ok
returns-in-Ok c =
    let (points, yields, step) = c.diagram.ensures.step in (points, step, c.from_vec.ensures ∙ c.in-Ok.ensures points yields)
