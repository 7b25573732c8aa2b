use Rattle.std.proofs.Common.{subst, inl, refl}
use Rattle.graphs.specs.declared.names.Level.TheVariants.{Main}
use Rattle.graph_model.specs.Commands.{Block}
use Rattle.graph_model.specs.Replies.{Built, Refused, picked_sum}
use Rattle.graph_model.specs.declared.names.Refusal.TheVariants.{Memory}
use Rattle.tx_graph.specs.Kept.{Kept, MakesStep}
use Rattle.desk.proofs.PoolLemmas.{refused_over}
use Rattle.desk.proofs.pool.fill_block.Goals as goal

pub returns-in-Ok : goal.returns-in-Ok
returns-in-Ok c = subst (λ (k : Kept). MakesStep k k (Block c.args.size) (Built (picked_sum c.in-Ok.picked) c.in-Ok.picked.ids)) c.new.ensures.graph c.in-Ok.ensures.step

pub returns : goal.returns
returns c =
    subst (λ (k : Kept). MakesStep k k (Block c.args.size) (Refused Memory)) c.new.ensures.graph c.in-Err.ensures.step

pub returns-then-oversized : goal.returns-then-oversized
returns-then-oversized c = refused_over c.args.graph.now (Block c.args.size) Main (λ state over. inl (over, refl))
    (λ state stands. (c.oversized.ensures.state state stands).0 c.if-oversized.true)
