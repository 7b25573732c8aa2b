use Rattle.std.proofs.Common.{subst}
use Rattle.graph_model.specs.States.{State}
use Rattle.reorg.specs.Kept.{Kept, StandsFor}
use Rattle.mempool.proofs.pool.Mempool.graph.Goals as goal

pub returns-clause-stands : goal.returns-clause-stands
returns-clause-stands g c = subst (λ (k : Kept). (state : State) × StandsFor k state) c.self.view_is c.self.invariant.stands
