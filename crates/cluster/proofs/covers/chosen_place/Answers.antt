use Rattle.std.proofs.Common.{◌≢◌, ◌*◌, ◌<◌, ◌++◌, ℕ, List, Contains, length, slice_index, sym, ap, ◌∙◌, rules, subst}
use Rattle.std.proofs.lemmas.List.Elements.{All-nil, All-push, All-contains}
use Rattle.bitset.specs.Sets.{Contains-places, places-here}
use Rattle.cluster.proofs.Lists.{next_within, split_more, split_all}
use Rattle.cluster.proofs.covers.chosen_place.Goals as goal

pub loop-place-init : goal.loop-place-init
loop-place-init g c = record {
  split = c.into_iter-place-iterator.ensures.into_iter_gives ∙ c.iter-place-items.ensures.places;
  none = All-nil (λ p. slice_index c.args.names.now p ≢ c.args.id);
}

pub bounds-names-place : goal.bounds-names-place
bounds-names-place g c = next_within (64 * g.row.W) c.args.names.now c.args.chosen.now c.requires
    c.loop-place.yielded c.loop-place.place-iterator _ c.in-Some.place c.loop-place.invariant.split c.in-Some.ensures.steps

pub offset_bounds-names-place : goal.offset_bounds-names-place
offset_bounds-names-place g c =
    let low : c.in-Some.place < length c.args.names.now = next_within (64 * g.row.W) c.args.names.now c.args.chosen.now c.requires
    c.loop-place.yielded c.loop-place.place-iterator _ c.in-Some.place c.loop-place.invariant.split c.in-Some.ensures.steps in
    search rules

pub loop-place-preserved : goal.loop-place-preserved
loop-place-preserved g c = record {
  split = split_more c.loop-place.yielded c.loop-place.place-iterator c.next.new.self _ c.in-Some.place c.loop-place.invariant.split c.in-Some.ensures.steps;
  none = All-push (λ p. slice_index c.args.names.now p ≢ c.args.id) c.loop-place.yielded c.in-Some.place c.loop-place.invariant.none search;
}

pub returns : goal.returns
returns g c p here =
    All-contains (λ q. slice_index c.args.names.now q ≢ c.args.id) c.loop-place.yielded p c.loop-place.invariant.none
    (subst (λ (xs : List ℕ). Contains xs p)
    (sym (split_all c.loop-place.yielded c.loop-place.place-iterator _ c.loop-place.invariant.split c.in-None.ensures.steps.0))
    (Contains-places (64 * g.row.W) c.args.chosen.now p (c.iter-place-items.ensures.within p here) here))

pub returns-then-names-place : goal.returns-then-names-place
returns-then-names-place g c =
    let here = (places-here (64 * g.row.W) c.args.chosen.now c.loop-place.yielded _ c.in-Some.place
    (sym c.loop-place.invariant.split ∙ ap (λ xs. c.loop-place.yielded ++ xs) c.in-Some.ensures.steps)).1 in
    (here, c.if-names-place.true)
