use Rattle.std.proofs.Common.{subst, lit<}
use Rattle.graph_model.specs.States.{State}
use Rattle.reorg.specs.Kept.{Kept, StandsFor}
use Rattle.replay.proofs.session.Session.additions.Goals as goal

pub returns-clause-stands : goal.returns-clause-stands
returns-clause-stands g c = subst (λ (k : Kept). (state : State) × StandsFor k state) c.self.view_is c.graph.ensures.stands

pub additions-requires : goal.additions-requires
additions-requires g c = lit< tt
