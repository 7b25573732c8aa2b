use Rattle.std.proofs.Common.{subst, sym, ap, ◌∙◌}
use Rattle.graph_model.specs.States.{State}
use Rattle.tx_graph.specs.Kept.{Kept, StandsFor}
use Rattle.tx_graph.proofs.Rooms.{levels_fit}
use Rattle.tx_graph.proofs.graph.TxGraph.additions.Goals as goal

pub returns-clause-stands : goal.returns-clause-stands
returns-clause-stands g c = subst (λ (k : Kept). (state : State) × StandsFor k state) c.self.view_is c.self.invariant.stands

pub issued-requires : goal.issued-requires
issued-requires g c = levels_fit g.row.W assumption

pub returns-clause-additions : goal.returns-clause-additions
returns-clause-additions g c = c.issued.ensures.issued ∙ ap (λ (k : Kept). k.levels.issued) c.self.view_is

pub returns-clause-most : goal.returns-clause-most
returns-clause-most g c = sym (ap (λ (k : Kept). k.most) c.self.view_is)

pub returns-clause-narrow : goal.returns-clause-narrow
returns-clause-narrow g c = c.issued.ensures.narrow
