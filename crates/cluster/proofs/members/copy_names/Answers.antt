use Rattle.std.proofs.Common.{◌*◌, ◌<◌, length, rules, ℕ, List, [], ◌∷◌, ◌++◌, map, slice_index, append_assoc, ◌∙◌, ap, sym}
use Rattle.cluster.proofs.Lists.{next_within, split_more}
use Rattle.std.proofs.lemmas.List.{map_push}
use Rattle.cluster.proofs.members.copy_names.Goals as goal

pub bounds-from-place : goal.bounds-from-place
bounds-from-place g c = next_within (64 * g.row.W) c.args.from.now c.args.chosen.now c.requires c.loop-place.yielded
    c.loop-place.place-iterator _ c.in-Some.place c.loop-place.invariant.split c.in-Some.ensures.steps

pub offset_bounds-from-place : goal.offset_bounds-from-place
offset_bounds-from-place g c =
    let low : c.in-Some.place < length c.args.from.now = next_within (64 * g.row.W) c.args.from.now c.args.chosen.now c.requires
    c.loop-place.yielded c.loop-place.place-iterator _ c.in-Some.place c.loop-place.invariant.split c.in-Some.ensures.steps in
    search rules

pub loop-place-preserved : goal.loop-place-preserved
loop-place-preserved g c = record {
  split = split_more c.loop-place.yielded c.loop-place.place-iterator c.next.new.self _ c.in-Some.place c.loop-place.invariant.split c.in-Some.ensures.steps;
  copied =
      let named = slice_index c.args.from.now in
      c.in_ok-push.ensures.ok
      ∙ ap (λ (xs : List ℕ). xs ++ named c.in-Some.place ∷ []) c.loop-place.invariant.copied
      ∙ append_assoc c.reserve_exact.new.self.items (map named c.loop-place.yielded) (named c.in-Some.place ∷ [])
      ∙ ap (λ (xs : List ℕ). c.reserve_exact.new.self.items ++ xs) (sym (map_push named c.loop-place.yielded c.in-Some.place));
}
