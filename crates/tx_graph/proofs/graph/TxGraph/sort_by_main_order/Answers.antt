-- Each call of the closure compares the places of two names.
use Rattle.std.proofs.Common.{rules, ◌≡◌, ◌*◌, List, Some, sym, subst}
use Rattle.std.specs.List.Sorted.{IsNonDecreasingBy}
use Rattle.std.proofs.lemmas.List.Sorted.{IsNonDecreasingBy-from_sort_by}
use Rattle.graphs.specs.Certificates.{Part}
use Rattle.graphs.specs.declared.names.Level.TheVariants.{Main}
use Rattle.graph_model.specs.Answers.{order_of}
use Rattle.graph_model.specs.States.{State, pick_of}
use Rattle.tx_graph.specs.Kept.{Kept, StandsFor}
use Rattle.tx_graph.specs.MainOrder.{StandInOrder, place_in}
use Rattle.tx_graph.proofs.Calls.{kept_of, within_view}
use Rattle.tx_graph.proofs.MainOrders.{main_sorted}
use Rattle.tx_graph.proofs.graph.TxGraph.sort_by_main_order.Goals as goal

pub returns-clause-sorted : goal.returns-clause-sorted
returns-clause-sorted g c =
    let kept = kept_of (64 * g.row.W) c.self.inside.begun c.self.inside.levels in
    let ids = c.sort_unstable_by.new.self in
    let rises : IsNonDecreasingBy (place_in (order_of c.args.self.now.levels.main.parts)) ids =
    IsNonDecreasingBy-from_sort_by (place_in (order_of c.args.self.now.levels.main.parts)) _ c.sort_unstable_by.ensures.sorted (λ a r q k. search rules) in
    subst (λ (k : Kept). (state : State) → StandsFor k state
    → (pick : List Part) × (pick_of state.picks Main ≡ Some pick) × StandInOrder (order_of pick) ids) c.self.view_is
    (main_sorted kept c.self.invariant.picked (within_view kept c.args.self.now Main c.self.view_is c.requires.within) ids
    (subst (λ (k : Kept). IsNonDecreasingBy (place_in (order_of k.levels.main.parts)) ids) (sym c.self.view_is) rises))
