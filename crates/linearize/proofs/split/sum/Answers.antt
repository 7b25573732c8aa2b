use Rattle.std.proofs.Common.{rules, ◌≡◌, ◌<◌, ◌*◌, ◌+◌, ◌∷◌, [], ◌++◌, ◌∙◌, ℕ, ℤ, ◌+ℤ◌, ap, sym, subst, arith, length, to_z, of_z}
use Rattle.std.specs.FinSet as fin
use Rattle.std.proofs.lemmas.Int.{to_z-of_z, fits_signed_from_abs}
use mir.Syntax.{w64}
use mir.Val.{SFits}
use Rattle.graphs.specs.Closures.{rate_of}
use Rattle.fee_rate.specs.Limits.{IsRate}
use Rattle.linearize.proofs.Places.{goes_here, goes_below}
use Rattle.linearize.proofs.Totals.{Summed, summed_more, fee_fits, size_fits, summed_small, summed_all}
use Rattle.linearize.proofs.split.sum.Goals as goal

pub rate-rate-requires : goal.rate-rate-requires
rate-rate-requires g c = (
  search rules,
  c.requires.members _
      (goes_here (64 * g.row.W) _ _ _ _ c.in-Some.place c.loop-place.invariant.goes c.in-Some.ensures.steps).1,
)

pub overflow_add-fee : goal.overflow_add-fee
overflow_add-fee g c =
    let i = c.loop-place.invariant in
    let rate : IsRate (rate_of c.args.dep.now c.in-Some.place) =
    c.requires.rates _ (c.requires.members _ (goes_here (64 * g.row.W) _ _ _ _ c.in-Some.place i.goes c.in-Some.ensures.steps).1) in
    let few : length c.loop-place.yielded < fin.len c.args.within.now =
    goes_below (64 * g.row.W) _ _ _ _ c.in-Some.place c.iter-place-items.ensures.within i.goes c.in-Some.ensures.steps in
    let mine : IsRate c.rate-rate.result = subst IsRate (sym c.rate-rate.ensures) rate in
    let fine : SFits w64 c.rate-rate.result.fee = fits_signed_from_abs w64 c.rate-rate.result.fee (let a = mine.fee in omega (arith, a)) in
    let back : to_z w64 (of_z w64 c.rate-rate.result.fee) ≡ c.rate-rate.result.fee = to_z-of_z w64 c.rate-rate.result.fee fine in
    subst (λ (z : ℤ). SFits w64 (to_z w64 c.loop-place.fee-bits +ℤ z)) (sym back)
    (fits_signed_from_abs w64 (to_z w64 c.loop-place.fee-bits +ℤ c.rate-rate.result.fee)
    (fee_fits (to_z w64 c.loop-place.fee-bits) c.rate-rate.result.fee (length c.loop-place.yielded) i.fee_small
    (let l = c.requires.few in omega (arith, few, l)) mine.fee))

pub overflow_add-size : goal.overflow_add-size
overflow_add-size g c =
    let i = c.loop-place.invariant in
    let rate : IsRate (rate_of c.args.dep.now c.in-Some.place) =
    c.requires.rates _ (c.requires.members _ (goes_here (64 * g.row.W) _ _ _ _ c.in-Some.place i.goes c.in-Some.ensures.steps).1) in
    let few : length c.loop-place.yielded < fin.len c.args.within.now =
    goes_below (64 * g.row.W) _ _ _ _ c.in-Some.place c.iter-place-items.ensures.within i.goes c.in-Some.ensures.steps in
    let mine : IsRate c.rate-rate.result = subst IsRate (sym c.rate-rate.ensures) rate in
    omega (
      arith,
      size_fits c.loop-place.size c.rate-rate.result.size (length c.loop-place.yielded) i.size_small
          (let l = c.requires.few in omega (arith, few, l)) mine.size,
    )

pub loop-place-preserved : goal.loop-place-preserved
loop-place-preserved g c =
    let i = c.loop-place.invariant in
    let rate : IsRate (rate_of c.args.dep.now c.in-Some.place) =
    c.requires.rates _ (c.requires.members _ (goes_here (64 * g.row.W) _ _ _ _ c.in-Some.place i.goes c.in-Some.ensures.steps).1) in
    let few : length c.loop-place.yielded < fin.len c.args.within.now =
    goes_below (64 * g.row.W) _ _ _ _ c.in-Some.place c.iter-place-items.ensures.within i.goes c.in-Some.ensures.steps in
    let mine : IsRate c.rate-rate.result = subst IsRate (sym c.rate-rate.ensures) rate in
    let fine : SFits w64 c.rate-rate.result.fee = fits_signed_from_abs w64 c.rate-rate.result.fee (let a = mine.fee in omega (arith, a)) in
    let back : to_z w64 (of_z w64 c.rate-rate.result.fee) ≡ c.rate-rate.result.fee = to_z-of_z w64 c.rate-rate.result.fee fine in
    let fits : SFits w64 (to_z w64 c.loop-place.fee-bits +ℤ c.rate-rate.result.fee) =
    fits_signed_from_abs w64 (to_z w64 c.loop-place.fee-bits +ℤ c.rate-rate.result.fee)
    (fee_fits (to_z w64 c.loop-place.fee-bits) c.rate-rate.result.fee (length c.loop-place.yielded) i.fee_small
    (let l = c.requires.few in omega (arith, few, l)) mine.fee) in
    let sum : to_z w64 (of_z w64 (to_z w64 c.loop-place.fee-bits +ℤ to_z w64 (of_z w64 c.rate-rate.result.fee))) ≡ to_z w64 c.loop-place.fee-bits +ℤ
    (rate_of c.args.dep.now c.in-Some.place).fee =
    ap (λ (z : ℤ). to_z w64 (of_z w64 (to_z w64 c.loop-place.fee-bits +ℤ z))) back ∙ to_z-of_z w64 _ fits
    ∙ ap (λ r. to_z w64 c.loop-place.fee-bits +ℤ r.fee) c.rate-rate.ensures in
    let wide : c.loop-place.size + c.rate-rate.result.size ≡ c.loop-place.size + (rate_of c.args.dep.now c.in-Some.place).size =
    ap (λ r. c.loop-place.size + r.size) c.rate-rate.ensures in
    subst (λ (z : ℤ). Summed (64 * g.row.W) c.args.dep.now c.args.within.now (c.loop-place.yielded ++ c.in-Some.place ∷ []) c.next.new.self z
    (c.loop-place.size + c.rate-rate.result.size)) (sym sum)
    (subst (λ (k : ℕ). Summed (64 * g.row.W) c.args.dep.now c.args.within.now (c.loop-place.yielded ++ c.in-Some.place ∷ []) c.next.new.self
    (to_z w64 c.loop-place.fee-bits +ℤ (rate_of c.args.dep.now c.in-Some.place).fee) k) (sym wide)
    (summed_more (64 * g.row.W) _ _ _ _ _ _ _ c.in-Some.place rate i c.in-Some.ensures.steps))

pub returns : goal.returns
returns g c = record {
  is = summed_all (64 * g.row.W) _ _ _ _ _ _ c.loop-place.invariant c.in-None.ensures.steps.0;
  size = summed_small (64 * g.row.W) _ _ _ _ _ _ c.iter-place-items.ensures.within c.requires.few c.loop-place.invariant c.in-None.ensures.steps.0;
}
