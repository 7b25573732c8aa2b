use Rattle.std.proofs.Common.{ℕ, List, nat_eq, sym, subst, arith}
use Rattle.std.specs.Prelude.{Contains, ◌↔◌}
use Rattle.std.specs.HashMap as hash
use Rattle.std.proofs.lemmas.List.{take_all}
use Rattle.links.specs.Kept.{ways_to}
use Rattle.links.specs.Places.{IsPlaceOf}
use Rattle.links.specs.Walkers.{FindsFrom, IsWalking}
use Rattle.links.specs.declared.ways.Ways.{Ways}
use Rattle.links.proofs.Marks.{found_from_places, places_more}
use Rattle.links.proofs.walker.walk_all.Goals as goal

pub loop-id-preserved : goal.loop-id-preserved
loop-id-preserved c = record {
  walking = subst (λ (n : ℕ). IsWalking n c.reach.new.walker) c.loop-id.invariant.walking.marked.sized c.reach.ensures.walking;
  starts = places_more (hash.get nat_eq c.args.maps.now.places) c.args.ids.now c.loop-id.id-index c.place_of.result c.loop-id.walker.found.items
      c.reach.new.walker.found.items c.loop-id-test.true c.place_of.ensures c.loop-id.invariant.starts c.reach.ensures.finds c.reach.ensures.found;
}

pub returns-clause-within : goal.returns-clause-within
returns-clause-within c p here =
    let walking = c.spread.ensures.walking in
    let low = walking.marked.within p (subst (λ (xs : List ℕ). Contains xs p) c.unmark.ensures.found here) in
    let sized = c.loop-id.invariant.walking.marked.sized in
    omega (arith, low, sized)

pub returns-clause-found : goal.returns-clause-found
returns-clause-found c =
    let find = hash.get nat_eq c.args.maps.now.places in
    let steps = (ways_to c.args.kin c.args.maps.now).steps.items in
    let starts = c.loop-id.walker.found.items in
    let are = subst (λ (xs : List ℕ). (p : ℕ) → Contains starts p ↔ IsPlaceOf find xs p) (take_all c.loop-id.id-index c.args.ids.now (omega arith))
    c.loop-id.invariant.starts in
    let found = c.spread.new.walker.found.items in
    let all = subst (λ (w : Ways). FindsFrom w.steps.items (Contains starts) found) c.ways_to.ensures c.spread.ensures.found in
    subst (λ (xs : List ℕ). FindsFrom steps (IsPlaceOf find c.args.ids.now) xs) (sym c.unmark.ensures.found)
    (found_from_places find c.args.ids.now steps starts found are all)
