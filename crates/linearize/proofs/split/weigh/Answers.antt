use Rattle.std.proofs.Common.{rules, ◌≡◌, ◌<◌, ◌*◌, ◌∷◌, ◌++◌, [], ◌∙◌, ℤ, ap, sym, subst, arith, true, set}
use Rattle.std.specs.FinSet as fin
use Rattle.std.proofs.lemmas.Int.{to_z-of_z, fits_signed_from_abs}
use mir.Syntax.{w128}
use mir.Val.{SFits}
use Rattle.fee_rate.specs.Limits.{IsRate}
use Rattle.graphs.specs.Certificates.{weight_in}
use Rattle.linearize.specs.Graphs.{sum_from}
use Rattle.linearize.proofs.Places.{goes_here}
use Rattle.linearize.proofs.Totals.{IsWeight, Weighed, weighed_start, weighed_more, weighed_all}
use Rattle.linearize.proofs.split.weigh.Goals as goal

pub loop-place-init : goal.loop-place-init
loop-place-init g c = weighed_start (64 * g.row.W) _ _ _ _ _ (c.into_iter-place-iterator.ensures.into_iter_gives ∙ c.iter-place-items.ensures.places)

pub rate-requires : goal.rate-requires
rate-requires g c = (
  search rules,
  c.requires.members _
      (goes_here (64 * g.row.W) _ _ _ _ c.in-Some.place c.loop-place.invariant.goes c.in-Some.ensures.steps).1,
)

pub weight-requires : goal.weight-requires
weight-requires g c = record {
  own = subst IsRate (sym c.rate.ensures) (c.requires.rates _
      (c.requires.members _ (goes_here (64 * g.row.W) _ _ _ _ c.in-Some.place c.loop-place.invariant.goes c.in-Some.ensures.steps).1));
  size = c.requires.size;
}

pub offset_bounds-weights-place : goal.offset_bounds-weights-place
offset_bounds-weights-place g c =
    let here : (c.in-Some.place < 64 * g.row.W) × (fin.contains c.args.within.now c.in-Some.place ≡ true) =
    goes_here (64 * g.row.W) _ _ _ _ c.in-Some.place c.loop-place.invariant.goes c.in-Some.ensures.steps in
    omega (arith, here.0, c.requires.narrow)

pub bounds-weights-place : goal.bounds-weights-place
bounds-weights-place g c =
    let here : (c.in-Some.place < 64 * g.row.W) × (fin.contains c.args.within.now c.in-Some.place ≡ true) =
    goes_here (64 * g.row.W) _ _ _ _ c.in-Some.place c.loop-place.invariant.goes c.in-Some.ensures.steps in
    omega (arith, here.0, c.loop-place.auto.weights, c.requires.room)

pub loop-place-preserved : goal.loop-place-preserved
loop-place-preserved g c =
    let here : (c.in-Some.place < 64 * g.row.W) × (fin.contains c.args.within.now c.in-Some.place ≡ true) =
    goes_here (64 * g.row.W) _ _ _ _ c.in-Some.place c.loop-place.invariant.goes c.in-Some.ensures.steps in
    let fine : SFits w128 c.weight.result = fits_signed_from_abs w128 c.weight.result (let a = c.weight.ensures.small in omega (arith, a)) in
    let is : IsWeight c.args.dep.now (sum_from c.args.whole) c.in-Some.place c.weight.result = record {
      is = c.weight.ensures.is ∙ ap (λ r. weight_in (sum_from c.args.whole) (sum_from r)) c.rate.ensures;
      small = c.weight.ensures.small;
    } in
    subst (λ (z : ℤ). Weighed (64 * g.row.W) c.args.dep.now c.args.within.now (sum_from c.args.whole) (set c.loop-place.weights c.in-Some.place z)
    (c.loop-place.yielded ++ c.in-Some.place ∷ []) c.next.new.self) (sym (to_z-of_z w128 c.weight.result fine))
    (weighed_more (64 * g.row.W) _ _ _ _ _ _ _ c.in-Some.place _ c.loop-place.invariant c.in-Some.ensures.steps
    (omega (arith, here.0, c.loop-place.auto.weights, c.requires.room)) is)

pub returns : goal.returns
returns g c = record {
  are = λ t m. (weighed_all (64 * g.row.W) _ _ _ _ _ _ c.iter-place-items.ensures.within c.loop-place.invariant c.in-None.ensures.steps.0 t m).is;
  small = λ t m. (weighed_all (64 * g.row.W) _ _ _ _ _ _ c.iter-place-items.ensures.within c.loop-place.invariant c.in-None.ensures.steps.0 t m).small;
}
