use Rattle.std.proofs.Common.{ℕ, true, List, length, get_or, ◌∙◌, subst, arith}
use Rattle.std.proofs.lemmas.List.{length-set, take_all}
use Rattle.std.proofs.lemmas.List.Elements.{Contains-get_or}
use Rattle.links.specs.Gathering.{MarksMore}
use Rattle.links.proofs.Chosen.{marks_next}
use Rattle.links.proofs.gathering.mark.Goals as goal

pub index_mut-requires : goal.index_mut-requires
index_mut-requires c =
    let low = c.requires _ (Contains-get_or c.args.places.now c.loop-place.place-index 0 c.loop-place-test.true) in
    let sized = c.loop-place.invariant.sized in
    omega arith

pub loop-place-preserved : goal.loop-place-preserved
loop-place-preserved c =
    let places = c.args.places.now in
    let k = c.loop-place.place-index in
    let mid = c.loop-place.marks.items in
    let low = c.requires _ (Contains-get_or places k 0 c.loop-place-test.true) in
    let sized = c.loop-place.invariant.sized in
    record {
      sized = length-set mid (get_or places k 0) true ∙ sized;
      marks = marks_next (length c.args.marks.now.items) c.args.marks.now.items mid places k c.loop-place.invariant.marks c.loop-place-test.true (omega arith);
    }

pub returns-clause-marks : goal.returns-clause-marks
returns-clause-marks c =
    subst (λ (l : List ℕ). MarksMore (length c.args.marks.now.items) c.args.marks.now.items l c.loop-place.marks.items)
    (take_all c.loop-place.place-index c.args.places.now (omega arith)) c.loop-place.invariant.marks
