-- The parts are the pick of every state.
use Rattle.std.proofs.Common.{◌*◌, ◌≡◌, ℕ, true, List, Contains, ◌↔◌, sym, ap, ◌∙◌, subst}
use Rattle.graphs.specs.Certificates.{Part}
use Rattle.graphs.specs.Closures.{is_member}
use Rattle.graph_model.specs.Answers.{order_of}
use Rattle.graph_model.specs.Commands.{Order, Proof}
use Rattle.graph_model.specs.Replies.{Parts, Proves}
use Rattle.graph_model.specs.States.{State}
use Rattle.tx_graph.specs.Kept.{Kept, StandsFor, MakesStep}
use Rattle.levels.specs.Levels.{level_at}
use Rattle.tx_graph.specs.Readings.{AreMinimalIn, IsBestOrder, IsTextOf}
use Rattle.tx_graph.proofs.Calls.{kept_of, within_view}
use Rattle.tx_graph.proofs.Telling.{steps_ordered, steps_proved, best_order, names_ordered, none_cut}
use Rattle.tx_graph.proofs.Rooms.{levels_fit}
use Rattle.tx_graph.proofs.graph.TxGraph.order.Goals as goal

pub returns-clause-parts : goal.returns-clause-parts
returns-clause-parts g c = c.new.ensures ∙ c.parts.ensures.parts ∙ ap (λ (k : Kept). (level_at k.levels c.args.level).parts) c.self.view_is

pub returns-clause-step : goal.returns-clause-step
returns-clause-step g c =
    let kept = kept_of (64 * g.row.W) c.self.inside.begun c.self.inside.levels in
    subst (λ (parts : List Part). MakesStep c.args.self.now c.args.self.now (Order c.args.level) (Parts parts)) (sym (returns-clause-parts g c))
    (subst (λ (k : Kept). MakesStep k k (Order c.args.level) (Parts (level_at k.levels c.args.level).parts)) c.self.view_is
    (steps_ordered kept c.args.level c.self.invariant.picked (within_view kept c.args.self.now c.args.level c.self.view_is c.requires.within)))

pub returns-clause-best : goal.returns-clause-best
returns-clause-best g c =
    let kept = kept_of (64 * g.row.W) c.self.inside.begun c.self.inside.levels in
    subst (λ (parts : List Part). (state : State) → StandsFor c.args.self.now state → IsBestOrder state c.args.level parts × AreMinimalIn state c.args.level parts)
    (sym (returns-clause-parts g c))
    (subst (λ (k : Kept). (state : State) → StandsFor k state → IsBestOrder state c.args.level (level_at k.levels c.args.level).parts
    × AreMinimalIn state c.args.level (level_at k.levels c.args.level).parts) c.self.view_is
    (λ state stands. (
      best_order kept c.args.level (within_view kept c.args.self.now c.args.level c.self.view_is c.requires.within) c.parts.ensures.best state stands,
      none_cut kept c.args.level c.parts.ensures.best state stands,
    )))

pub returns-clause-names : goal.returns-clause-names
returns-clause-names g c =
    let kept = kept_of (64 * g.row.W) c.self.inside.begun c.self.inside.levels in
    let named = names_ordered kept c.args.level (within_view kept c.args.self.now c.args.level c.self.view_is c.requires.within) c.parts.ensures.best c.self.invariant.stands in
    subst (λ (parts : List Part). (id : ℕ) → Contains (order_of parts) id ↔ (is_member (level_at c.args.self.now.levels c.args.level).graph id ≡ true))
    (sym (returns-clause-parts g c))
    (subst (λ (k : Kept). (id : ℕ) → Contains (order_of (level_at k.levels c.args.level).parts) id
    ↔ (is_member (level_at k.levels c.args.level).graph id ≡ true)) c.self.view_is named)

pub returns-clause-proof : goal.returns-clause-proof
returns-clause-proof g c text is =
    let kept = kept_of (64 * g.row.W) c.self.inside.begun c.self.inside.levels in
    subst (λ (k : Kept). IsTextOf (level_at k.levels c.args.level) text → MakesStep k k (Proof c.args.level) (Proves text)) c.self.view_is
    (steps_proved kept c.args.level text c.self.invariant.picked (within_view kept c.args.self.now c.args.level c.self.view_is c.requires.within)) is

pub parts-requires : goal.parts-requires
parts-requires g c =
    let kept = kept_of (64 * g.row.W) c.self.inside.begun c.self.inside.levels in
    (levels_fit g.row.W assumption, (assumption, within_view kept c.args.self.now c.args.level c.self.view_is c.requires.within))
