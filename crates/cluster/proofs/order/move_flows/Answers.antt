use Rattle.std.proofs.Common.{◌<◌, length, slice_index_or, rules, List, [], ◌∷◌, ◌++◌, map, take, ◌∙◌, ap, sym}
use Rattle.std.proofs.lemmas.List.Elements.{Contains-get_or}
use Rattle.linearize.specs.declared.draft.PlaceFlow.{PlaceFlow}
use Rattle.std.proofs.lemmas.List.{map_push, take_more}
use Rattle.cluster.specs.Orders.{at_positions}
use Rattle.cluster.proofs.order.move_flows.Goals as goal

abbrev no_flow : PlaceFlow
no_flow = record { child = 0; parent = 0; amount = 0 }

pub offset_bounds-positions-flow : goal.offset_bounds-positions-flow
offset_bounds-positions-flow c =
    let low : (slice_index_or c.args.own.now c.loop-at.at no_flow).child < length c.args.positions.now =
    (c.requires _ (Contains-get_or c.args.own.now c.loop-at.at no_flow c.loop-at-test.true)).0 in
    search rules

pub bounds-positions-flow : goal.bounds-positions-flow
bounds-positions-flow c = (c.requires _ (Contains-get_or c.args.own.now c.loop-at.at no_flow c.loop-at-test.true)).0

pub offset_bounds-positions-flow-in-loop-at : goal.offset_bounds-positions-flow-in-loop-at
offset_bounds-positions-flow-in-loop-at c =
    let low : (slice_index_or c.args.own.now c.loop-at.at no_flow).parent < length c.args.positions.now =
    (c.requires _ (Contains-get_or c.args.own.now c.loop-at.at no_flow c.loop-at-test.true)).1 in
    search rules

pub bounds-positions-flow-in-loop-at : goal.bounds-positions-flow-in-loop-at
bounds-positions-flow-in-loop-at c = (c.requires _ (Contains-get_or c.args.own.now c.loop-at.at no_flow c.loop-at-test.true)).1

pub loop-at-preserved : goal.loop-at-preserved
loop-at-preserved c =
    let f = at_positions c.args.positions.now in
    let own = c.args.own.now in
    let flow = slice_index_or own c.loop-at.at no_flow in
    c.in_ok-push.ensures.items
    ∙ ap (λ (xs : List PlaceFlow). xs ++ f flow ∷ []) c.loop-at.invariant
    ∙ sym (map_push f (take c.loop-at.at own) flow)
    ∙ ap (map f) (sym (take_more own c.loop-at.at no_flow c.loop-at-test.true))
