use Rattle.std.proofs.Common.{◌≡◌, ◌<◌, ℕ, length, get_or, sym, subst, arith}
use Rattle.std.proofs.lemmas.List.{get_or_read}
use Rattle.links.specs.Walkers.{IsWalking}
use Rattle.links.proofs.Marks.{way_first, way_next, way_all, few_found}
use Rattle.links.proofs.walker.spread.Goals as goal

pub loop-done-init : goal.loop-done-init
loop-done-init c = record { walking = c.requires.walking; way = way_first c.args.ways.now.steps.items c.args.walker.now.found.items }

pub look_around-requires-clause-from : goal.look_around-requires-clause-from
look_around-requires-clause-from c =
    let found = c.loop-done.walker.found.items in
    let low : c.loop-done.done < length found = omega (arith, c.loop-done-test.true, c.len.ensures) in
    let m = c.loop-done.invariant.walking.marked in
    let inside = m.within c.index-place.result.now (c.loop-done.done, low, sym c.index-place.ensures) in
    let sized = m.sized in
    omega arith

pub loop-done-smaller : goal.loop-done-smaller
loop-done-smaller c =
    let m = c.loop-done.invariant.walking.marked in
    let few = few_found (length c.args.walker.now.marks.items) c.loop-done.walker.marks.items c.loop-done.walker.found.items m in
    let low : c.loop-done.done < length c.loop-done.walker.found.items = omega (arith, c.loop-done-test.true, c.len.ensures) in
    omega arith

pub loop-done-preserved : goal.loop-done-preserved
loop-done-preserved c =
    let found = c.loop-done.walker.found.items in
    let low : c.loop-done.done < length found = omega (arith, c.loop-done-test.true, c.len.ensures) in
    let is : get_or found c.loop-done.done 0 ≡ c.index-place.result.now =
    sym (get_or_read found c.loop-done.done c.index-place.result.now low c.index-place.ensures 0) in
    let m = c.loop-done.invariant.walking.marked in
    let sized = m.sized in
    record {
      walking = subst (λ (n : ℕ). IsWalking n c.look_around.new.walker) sized c.look_around.ensures.walking;
      way = way_next c.args.ways.now.steps.items c.args.walker.now.found.items c.loop-done.done c.index-place.result.now found
          c.look_around.new.walker.found.items c.loop-done.invariant.way low is c.look_around.ensures.finds c.look_around.ensures.all;
    }

pub returns-clause-found : goal.returns-clause-found
returns-clause-found c =
    way_all c.args.ways.now.steps.items c.args.walker.now.found.items c.loop-done.done c.loop-done.walker.found.items c.loop-done.invariant.way (omega arith)
    c.loop-done.invariant.walking.marked.once
