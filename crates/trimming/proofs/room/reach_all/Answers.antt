use Rattle.std.proofs.Common.{ℕ, List, take, get_or, inl, inr, sym, subst, arith}
use Rattle.std.specs.Prelude.{Contains}
use Rattle.std.proofs.lemmas.List.{take_all, take_more}
use Rattle.std.proofs.lemmas.List.Elements.{Contains-get_or, Contains-push_cases}
use Rattle.links.proofs.Marks.{found_stays}
use Rattle.trimming.specs.Rooms.{IsFinding}
use Rattle.trimming.proofs.Finding.{finds_more}
use Rattle.trimming.proofs.room.reach_all.Goals as goal

pub reach-requires-clause-place : goal.reach-requires-clause-place
reach-requires-clause-place c =
    let low = c.requires.places _ (Contains-get_or c.args.places.now c.loop-place.place-index 0 c.loop-place-test.true) in
    let sized = c.loop-place.invariant.finding.marked.sized in
    omega (arith, low, sized)

pub loop-place-preserved : goal.loop-place-preserved
loop-place-preserved c =
    let places = c.args.places.now in
    let k = c.loop-place.place-index in
    let here = Contains-get_or places k 0 c.loop-place-test.true in
    record {
      finding = subst (λ (n : ℕ). IsFinding n c.reach.new.room) c.loop-place.invariant.finding.marked.sized c.reach.ensures.finding;
      finds = finds_more (Contains places) c.args.room.now.found.items c.loop-place.room.found.items c.reach.new.room.found.items (get_or places k 0) here
          c.loop-place.invariant.finds c.reach.ensures.finds;
      found = λ p has. elim (Contains-push_cases (take k places) (get_or places k 0) p
          (subst (λ (l : List ℕ). Contains l p) (take_more places k 0 c.loop-place-test.true) has)) [
            | inl before ↦ found_stays _ c.loop-place.room.found.items c.reach.new.room.found.items p c.reach.ensures.finds (c.loop-place.invariant.found p before)
            | inr same ↦ subst (Contains c.reach.new.room.found.items) same c.reach.ensures.found
          ];
    }

pub returns-clause-found : goal.returns-clause-found
returns-clause-found c p has =
    c.loop-place.invariant.found p (subst (λ (l : List ℕ). Contains l p) (sym (take_all c.loop-place.place-index c.args.places.now (omega arith))) has)
