use Rattle.std.proofs.Common.{inl, inr, refl}
use Rattle.graph_model.specs.Commands as commands
use Rattle.desk.proofs.PoolLemmas.{refused_over}
use Rattle.desk.proofs.gathering.gather_order.Goals as goal

pub returns-then-oversized : goal.returns-then-oversized
returns-then-oversized c = inr (
    refused_over c.args.graph.now (commands.Order c.args.level) c.args.level (λ state over. inl (over, refl))
    (λ state stands. (c.oversized.ensures.state state stands).0 c.if-oversized.true)
    )
