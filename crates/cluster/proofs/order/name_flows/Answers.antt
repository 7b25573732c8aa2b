use Rattle.std.proofs.Common.{◌<◌, length, slice_index_or, rules, List, [], ◌∷◌, ◌++◌, map, take, append_assoc, ◌∙◌, ap, sym}
use Rattle.std.proofs.lemmas.List.Elements.{Contains-get_or}
use Rattle.linearize.specs.declared.draft.PlaceFlow.{PlaceFlow}
use Rattle.std.proofs.lemmas.List.{map_push, take_more}
use Rattle.graphs.specs.declared.names.Flow.{Flow}
use Rattle.cluster.specs.Orders.{named_at}
use Rattle.cluster.proofs.order.name_flows.Goals as goal

abbrev no_flow : PlaceFlow
no_flow = record { child = 0; parent = 0; amount = 0 }

pub offset_bounds-order-flow : goal.offset_bounds-order-flow
offset_bounds-order-flow c =
    let low : (slice_index_or c.args.moved.now c.loop-at.at no_flow).child < length c.args.order.now =
    (c.requires _ (Contains-get_or c.args.moved.now c.loop-at.at no_flow c.loop-at-test.true)).0 in
    search rules

pub bounds-order-flow : goal.bounds-order-flow
bounds-order-flow c = (c.requires _ (Contains-get_or c.args.moved.now c.loop-at.at no_flow c.loop-at-test.true)).0

pub offset_bounds-order-flow-in-loop-at : goal.offset_bounds-order-flow-in-loop-at
offset_bounds-order-flow-in-loop-at c =
    let low : (slice_index_or c.args.moved.now c.loop-at.at no_flow).parent < length c.args.order.now =
    (c.requires _ (Contains-get_or c.args.moved.now c.loop-at.at no_flow c.loop-at-test.true)).1 in
    search rules

pub bounds-order-flow-in-loop-at : goal.bounds-order-flow-in-loop-at
bounds-order-flow-in-loop-at c = (c.requires _ (Contains-get_or c.args.moved.now c.loop-at.at no_flow c.loop-at-test.true)).1

pub loop-at-preserved : goal.loop-at-preserved
loop-at-preserved c =
    let f = named_at c.args.order.now in
    let moved = c.args.moved.now in
    let flow = slice_index_or moved c.loop-at.at no_flow in
    c.in_ok-push.ensures.items
    ∙ ap (λ (xs : List Flow). xs ++ f flow ∷ []) c.loop-at.invariant
    ∙ append_assoc c.args.flows.now.items (map f (take c.loop-at.at moved)) (f flow ∷ [])
    ∙ ap (λ (xs : List Flow). c.args.flows.now.items ++ xs)
    (sym (map_push f (take c.loop-at.at moved) flow) ∙ ap (map f) (sym (take_more moved c.loop-at.at no_flow c.loop-at-test.true)))
