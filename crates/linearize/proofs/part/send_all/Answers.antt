use Rattle.std.proofs.Common.{◌≡◌, ◌<◌, ◌≤◌, ◌+◌, ◌*◌, ◌∷◌, [], ◌∙◌, ℕ, ap, sym, subst, arith, length, lit<, refl}
use Rattle.std.specs.FinSet as fin
use Rattle.std.proofs.lemmas.List.{get_or_read_under}
use Rattle.bitset.specs.Places.{places}
use Rattle.closure_flow.specs.Scratches.{flow_of}
use Rattle.linearize.specs.Drafts.{all_flows}
use Rattle.linearize.specs.Orders.{flows_from, flows_of, parents_within}
use Rattle.linearize.proofs.FlowLists.{of_append, of_one, of_start, sending_more, sending_room}
use Rattle.linearize.proofs.Places.{goes_here}
use Rattle.linearize.proofs.Sizes.{words_fit, scratch_fits}
use Rattle.linearize.proofs.part.send_all.Goals as goal

pub loop-child-init : goal.loop-child-init
loop-child-init g c = of_start (64 * g.row.W) c.args.within.now c.args.parents.now (flow_of c.args.scratch.now) c.args.draft.now _
    (c.into_iter-child-iterator.ensures.into_iter_gives ∙ c.iter-child-items.ensures.places)

pub offset_bounds-parents-child : goal.offset_bounds-parents-child
offset_bounds-parents-child g c =
    let low : c.in-Some.child < length c.args.parents.now =
    c.requires.there _ (goes_here (64 * g.row.W) _ _ _ _ c.in-Some.child c.loop-child.invariant.goes c.in-Some.ensures.steps).1 in
    omega arith

pub bounds-parents-child : goal.bounds-parents-child
bounds-parents-child g c = c.requires.there _ (goes_here (64 * g.row.W) _ _ _ _ c.in-Some.child c.loop-child.invariant.goes c.in-Some.ensures.steps).1

pub send_from-requires : goal.send_from-requires
send_from-requires g c =
    let n : ℕ = 64 * g.row.W in
    let flow = flow_of c.args.scratch.now in
    let low : c.in-Some.child < length c.args.parents.now =
    c.requires.there _ (goes_here n _ _ _ _ c.in-Some.child c.loop-child.invariant.goes c.in-Some.ensures.steps).1 in
    let to : places n c.meet-to.result ≡ parents_within n c.args.parents.now c.args.within.now c.in-Some.child =
    ap (places n) (c.meet-to.ensures ∙ ap (λ s. fin.intersection s c.args.within.now)
    (get_or_read_under c.args.parents.now c.in-Some.child _ _ fin.empty c.index-parents-child.is low refl)) in
    let one = of_one n c.args.parents.now c.args.within.now flow c.in-Some.child ∙ ap (flows_from flow c.in-Some.child) (sym to) in
    let room : 4 * (length (all_flows c.loop-child.draft) + length (flows_of n c.args.parents.now c.args.within.now flow (c.in-Some.child ∷ []))) ≤ n * n =
    sending_room n c.args.within.now (flows_of n c.args.parents.now c.args.within.now flow)
    c.args.draft.now c.loop-child.draft _ _ _ c.in-Some.child _ (of_append n c.args.parents.now c.args.within.now flow)
    c.loop-child.invariant c.in-Some.ensures.steps c.requires.room in (
      scratch_fits g.row.W c.requires.narrow,
      (
        words_fit g.row.W c.requires.narrow,
        (
          lit< tt,
          (c.requires.narrow, subst (λ fs. 4 * (length (all_flows c.loop-child.draft) + length fs) ≤ n * n) one room),
        ),
      ),
    )

pub loop-child-preserved : goal.loop-child-preserved
loop-child-preserved g c =
    let n : ℕ = 64 * g.row.W in
    let flow = flow_of c.args.scratch.now in
    let low : c.in-Some.child < length c.args.parents.now =
    c.requires.there _ (goes_here n _ _ _ _ c.in-Some.child c.loop-child.invariant.goes c.in-Some.ensures.steps).1 in
    let to : places n c.meet-to.result ≡ parents_within n c.args.parents.now c.args.within.now c.in-Some.child =
    ap (places n) (c.meet-to.ensures ∙ ap (λ s. fin.intersection s c.args.within.now)
    (get_or_read_under c.args.parents.now c.in-Some.child _ _ fin.empty c.index-parents-child.is low refl)) in
    sending_more n c.args.within.now (flows_of n c.args.parents.now c.args.within.now flow)
    c.args.draft.now c.loop-child.draft c.send_from.new.draft _ _ _ c.in-Some.child _ (of_append n c.args.parents.now c.args.within.now flow)
    c.loop-child.invariant c.in-Some.ensures.steps
    (of_one n c.args.parents.now c.args.within.now flow c.in-Some.child ∙ ap (flows_from flow c.in-Some.child) (sym to))
    c.send_from.ensures
