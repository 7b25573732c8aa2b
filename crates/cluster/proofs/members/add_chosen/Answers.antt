use Rattle.std.proofs.Common.{◌≡◌, ◌*◌, ◌<◌, ◌+◌, ◌-◌, [], ◌∷◌, ◌++◌, map, length, arith, rules, ◌∙◌, ap, sym, refl, slice_index, append-nil}
use Rattle.graphs.specs.Rooms.{Room}
use Rattle.std.proofs.lemmas.List.{length_push}
use Rattle.cluster.proofs.Lists.{next_within, room_left, copied_more, split_more, split_all, chosen_put}
use Rattle.cluster.proofs.members.add_chosen.Goals as goal

pub loop-place-init : goal.loop-place-init
loop-place-init g c = record {
  split = c.into_iter-place-iterator.ensures.into_iter_gives ∙ c.iter-place-items.ensures.places;
  copied = sym (append-nil c.args.out.now.ids);
  room = refl;
}

pub bounds-names-place : goal.bounds-names-place
bounds-names-place g c = next_within (64 * g.row.W) c.args.names.now c.args.chosen.now c.requires.within
    c.loop-place.yielded c.loop-place.place-iterator _ c.in-Some.place c.loop-place.invariant.split c.in-Some.ensures.steps

pub offset_bounds-names-place : goal.offset_bounds-names-place
offset_bounds-names-place g c =
    let low : c.in-Some.place < length c.args.names.now = next_within (64 * g.row.W) c.args.names.now c.args.chosen.now c.requires.within
    c.loop-place.yielded c.loop-place.place-iterator _ c.in-Some.place c.loop-place.invariant.split c.in-Some.ensures.steps in
    search rules

pub push-requires : goal.push-requires
push-requires g c =
    room_left (64 * g.row.W) c.args.names.now c.args.chosen.now c.loop-place.yielded c.loop-place.place-iterator _
    c.in-Some.place c.args.out.now.ids c.loop-place.out.ids c.loop-place.out.room c.args.out.now.room
    c.requires.within c.loop-place.invariant.split c.in-Some.ensures.steps c.loop-place.invariant.copied c.loop-place.invariant.room c.requires.room

pub loop-place-preserved : goal.loop-place-preserved
loop-place-preserved g c = record {
  split = split_more c.loop-place.yielded c.loop-place.place-iterator c.next.new.self _ c.in-Some.place c.loop-place.invariant.split c.in-Some.ensures.steps;
  copied = ap (λ (r : Room). r.ids) c.push.ensures
      ∙ copied_more c.args.names.now c.args.out.now.ids c.loop-place.yielded c.loop-place.out.ids c.in-Some.place c.loop-place.invariant.copied;
  room =
      let left : 0 < c.loop-place.out.room =
      room_left (64 * g.row.W) c.args.names.now c.args.chosen.now c.loop-place.yielded c.loop-place.place-iterator _
      c.in-Some.place c.args.out.now.ids c.loop-place.out.ids c.loop-place.out.room c.args.out.now.room
      c.requires.within c.loop-place.invariant.split c.in-Some.ensures.steps c.loop-place.invariant.copied c.loop-place.invariant.room c.requires.room in
      let pushed : length c.push.new.self.ids + c.push.new.self.room
      ≡ length (c.loop-place.out.ids ++ slice_index c.args.names.now c.in-Some.place ∷ []) + (c.loop-place.out.room - 1) =
      ap (λ (r : Room). length r.ids + r.room) c.push.ensures in
      let longer : length (c.loop-place.out.ids ++ slice_index c.args.names.now c.in-Some.place ∷ []) ≡ length c.loop-place.out.ids + 1 =
      length_push c.loop-place.out.ids (slice_index c.args.names.now c.in-Some.place) in
      let same : length c.loop-place.out.ids + c.loop-place.out.room ≡ length c.args.out.now.ids + c.args.out.now.room = c.loop-place.invariant.room in
      omega arith;
}

pub returns-clause-adds : goal.returns-clause-adds
returns-clause-adds g c =
    chosen_put (64 * g.row.W) c.args.names.now c.args.chosen.now c.requires.within
    c.iter-place-items.ensures.within c.requires.once c.args.out.now.ids c.loop-place.out.ids
    (c.loop-place.invariant.copied ∙ ap (λ xs. c.args.out.now.ids ++ map (slice_index c.args.names.now) xs)
    (split_all c.loop-place.yielded c.loop-place.place-iterator _ c.loop-place.invariant.split c.in-None.ensures.steps.0))

pub returns-clause-room : goal.returns-clause-room
returns-clause-room g c = c.loop-place.invariant.room
