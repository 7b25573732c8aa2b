use Rattle.std.proofs.Common.{◌≡◌, ◌≤◌, ◌*◌, List, length, map, sym, subst₂, arith, rules}
use Rattle.std.specs.Prelude.{Option}
use Rattle.graphs.specs.Certificates.{Part}
use Rattle.graphs.specs.declared.names.Flow.{Flow}
use Rattle.linearize.specs.declared.draft.PlaceFlow.{PlaceFlow}
use Rattle.linearize.specs.declared.old.OldPart.{OldPart}
use Rattle.linearize.specs.Known.{all_filled}
use Rattle.cluster.specs.Guesses.{at_places}
use Rattle.cluster.specs.Orders.{AreWithin, IsReadOf}
use Rattle.cluster.proofs.Fillings.{all_within, are_known, filled_read, placed_bare}
use Rattle.std.specs.FinSet as set
use Rattle.std.proofs.lemmas.Result.{IfOk-weaker}
use Rattle.graphs.specs.Closures.{members_of}
use Rattle.cluster.specs.declared.order.Order.{Order}
use Rattle.cluster.proofs.Joined.{members_long}
use Rattle.cluster.proofs.Solving.{has_rates, is_component, is_placed, is_ordered, within_most}
use Rattle.cluster.proofs.making.solved.Goals as goal

pub optimal_near-requires : goal.optimal_near-requires
optimal_near-requires g c =
    let long : set.len (members_of c.args.dep.now) ≡ length c.args.names.now = members_long (64 * g.row.W) c.args.names.now c.args.dep.now c.requires.named in
    let some : 1 ≤ length c.args.names.now = c.requires.named.some in
    let few : length c.args.names.now ≤ 64 * g.row.W = c.requires.named.few in
    let narrow : g.row.W ≤ 64 = c.room.invariant.2 in (
      search rules,
      (
        search rules,
        (
          search rules,
          (
            omega arith,
            (
              omega arith,
              (has_rates (64 * g.row.W) c.args.names.now c.args.dep.now c.requires.named, (is_component (64 * g.row.W) c.args.names.now c.args.dep.now c.requires.named, (map (at_places c.args.names.now) c.args.guess.now.flows.items, are_known c.args.names.now c.args.dep.now c.args.guess.now.parts.items c.args.guess.now.places.items c.args.guess.now.flows.items c.requires.known))),
            ),
          ),
        ),
      ),
    )

pub read-requires : goal.read-requires
read-requires g c =
    let few : length c.args.names.now ≤ 64 * g.row.W = c.requires.named.few in
    let flows : List PlaceFlow = map (at_places c.args.names.now) c.args.guess.now.flows.items in
    let known = are_known c.args.names.now c.args.dep.now c.args.guess.now.parts.items c.args.guess.now.places.items c.args.guess.now.flows.items c.requires.known in (
      search rules,
      (
        omega (arith, c.room.invariant.0, c.as_mut_slice.ensures.len),
        (
          placed_bare c.args.names.now c.args.dep.now c.args.guess.now.parts.items c.args.guess.now.places.items c.args.guess.now.flows.items c.requires.known
              (length c.args.names.now) c.optimal_near.new.froms.items c.optimal_near.new.out c.optimal_near.ensures.taken
              (is_placed (64 * g.row.W) c.args.names.now c.args.dep.now c.requires.named c.optimal_near.ensures.stands.0
              (all_filled c.args.guess.now.places.items flows c.optimal_near.new.froms.items c.optimal_near.new.out) c.optimal_near.ensures.stands.1
              (c.optimal_near.ensures.certificate flows known c.optimal_near.ensures.stands.0 c.optimal_near.ensures.stands.1)),
          subst₂ AreWithin (sym c.as_slice.ensures.value) (sym c.as_slice-2.ensures.value)
              (all_within c.args.names.now c.args.dep.now c.args.guess.now.parts.items c.args.guess.now.places.items c.args.guess.now.flows.items c.requires.known
              c.optimal_near.new.froms.items c.optimal_near.new.out c.optimal_near.ensures.taken),
        ),
      ),
    )

pub returns-clause-order : goal.returns-clause-order
returns-clause-order g c =
    let flows : List PlaceFlow = map (at_places c.args.names.now) c.args.guess.now.flows.items in
    let known = are_known c.args.names.now c.args.dep.now c.args.guess.now.parts.items c.args.guess.now.places.items c.args.guess.now.flows.items c.requires.known in
    let parts : List Part = all_filled c.args.guess.now.places.items flows c.optimal_near.new.froms.items c.optimal_near.new.out in
    IfOk-weaker c.read.result _ _ (λ (o : Order) read. is_ordered (64 * g.row.W) c.args.names.now c.args.dep.now c.requires.named parts
    (c.optimal_near.ensures.certificate flows known) (c.optimal_near.ensures.minimal flows known)
    (is_placed (64 * g.row.W) c.args.names.now c.args.dep.now c.requires.named c.optimal_near.ensures.stands.0 parts c.optimal_near.ensures.stands.1
    (c.optimal_near.ensures.certificate flows known c.optimal_near.ensures.stands.0 c.optimal_near.ensures.stands.1))
    o.parts.items o.names.items o.flows.items
    (filled_read c.args.names.now c.args.dep.now c.args.guess.now.parts.items c.args.guess.now.places.items c.args.guess.now.flows.items c.requires.known
    c.optimal_near.new.froms.items c.optimal_near.new.out c.optimal_near.ensures.taken o.parts.items o.names.items o.flows.items
    (subst₂ (λ (fs : List (Option OldPart)) (ks : List Flow). IsReadOf c.args.names.now fs ks c.optimal_near.new.out o.parts.items o.names.items o.flows.items)
    c.as_slice.ensures.value c.as_slice-2.ensures.value read))) c.read.ensures

pub returns-clause-steps : goal.returns-clause-steps
returns-clause-steps g c =
    within_most (set.len (members_of c.args.dep.now)) (length c.args.names.now) c.args.steps.now c.optimal_near.new.steps
    (members_long (64 * g.row.W) c.args.names.now c.args.dep.now c.requires.named) c.optimal_near.ensures.steps_most
    (let least = c.optimal_near.ensures.steps_counted in omega (arith, least.gave, least.least))

pub invariant_of-room : goal.invariant_of-room
invariant_of-room g c = c.room.invariant
