use Rattle.std.proofs.Common.{◌*◌, ◌∙◌, ◌<◌, length, slice_index_or, nat_cmp, ap, rules}
use Rattle.std.specs.FinSet as fin
use Rattle.dep_graph.specs.Changes.{gives_ancestors}
use Rattle.dep_graph.proofs.Loops.{InProgress-start, InProgress-inside, InProgress-more, InProgress-all}
use Rattle.dep_graph.proofs.Reading.{row_written}
use Rattle.dep_graph.proofs.rows.give_ancestors.Goals as goal

pub loop-place-init : goal.loop-place-init
loop-place-init g c =
    InProgress-start (64 * g.row.W) (gives_ancestors c.args.more.now) c.args.places.now c.args.rows.now _
    (c.into_iter-place-iterator.ensures.into_iter_gives ∙ c.iter-place-items.ensures.places)

pub offset_bounds-rows-place : goal.offset_bounds-rows-place
offset_bounds-rows-place g c =
    let inside : c.in-Some.place < length c.loop-place.rows = InProgress-inside c.loop-place.invariant c.in-Some.ensures.steps c.requires in
    search rules

pub bounds-rows-place : goal.bounds-rows-place
bounds-rows-place g c = InProgress-inside c.loop-place.invariant c.in-Some.ensures.steps c.requires

pub loop-place-preserved : goal.loop-place-preserved
loop-place-preserved g c =
    let inside : c.in-Some.place < length c.loop-place.rows = InProgress-inside c.loop-place.invariant c.in-Some.ensures.steps c.requires in
    InProgress-more c.loop-place.invariant c.in-Some.ensures.steps _ inside
    (ap (λ (s : fin.FinSet nat_cmp). record (slice_index_or c.loop-place.rows c.in-Some.place c.index-rows-place.result) { ancestors = s }) c.union-row.ensures
    ∙ ap (gives_ancestors c.args.more.now) (row_written c.loop-place.rows c.in-Some.place c.index-rows-place.result c.index-rows-place.is inside))

pub returns : goal.returns
returns g c =
    InProgress-all (64 * g.row.W) (gives_ancestors c.args.more.now) c.args.places.now _ _ _ _ c.iter-place-items.ensures.within c.loop-place.invariant
    c.in-None.ensures.steps.0
