use Rattle.std.proofs.Common.{List, map, sym, subst}
use Rattle.std.specs.List.Sorted.{IsPermutation}
use Rattle.std.proofs.lemmas.List.Sorted.{Contains-permutation, IsPermutation-sym}
use Rattle.linearize.specs.declared.draft.PlaceFlow.{PlaceFlow}
use Rattle.cluster.specs.Orders.{at_positions}
use Rattle.cluster.proofs.order.add_flows.Goals as goal

pub name_flows-requires : goal.name_flows-requires
name_flows-requires c =
    let sorted : IsPermutation (map (at_positions c.args.positions.now) c.args.own.now) c.as_slice.result.now =
    subst (λ (fs : List PlaceFlow). IsPermutation (map (at_positions c.args.positions.now) c.args.own.now) fs) (sym c.as_slice.ensures.value)
    (subst (λ (fs : List PlaceFlow). IsPermutation fs c.sort_flows.new.moved.items) c.in_ok-move_flows.ensures c.sort_flows.ensures.same) in
    λ flow here. c.requires.within flow (Contains-permutation c.as_slice.result.now (map (at_positions c.args.positions.now) c.args.own.now) flow
    (IsPermutation-sym (map (at_positions c.args.positions.now) c.args.own.now) c.as_slice.result.now sorted) here)
