use Rattle.std.proofs.Common.{◌∙◌, ◌-◌, ◌-ℤ◌, ◌*ℤ◌, pos, sym, subst, rules, arith}
use Rattle.std.specs.Ordering.{int_cmp}
use Rattle.std.proofs.lemmas.Int.{to_z-of_z}
use mir.Syntax.{w128}
use mir.Val.{SFits}
use Rattle.fee_rate.specs.Rates.{ComparesRates}
use Rattle.diagram.specs.Comparisons.{height_from}
use Rattle.diagram.proofs.HeightLemmas.{compares_line, fee_of}
use Rattle.diagram.proofs.sides.compare_point.Goals as goal

pub returns-in-Some : goal.returns-in-Some
returns-in-Some c =
    let point = c.args.point in
    let p = c.args.line.from in
    let q = c.in-Some.to in
    let risen = c.rise_times-risen.result in
    let rise = c.rise_times.result in
    let in_range = c.requires.ranged.to q c.in-Some.is in
    let point_fits : SFits w128 point.1 = search rules in
    let p_fits : SFits w128 p.1 = search rules in
    let q_fits : SFits w128 q.1 = search (rules, in_range) in
    let risen_fits : SFits w128 risen = search rules in
    let rise_fits : SFits w128 rise = search rules in
    subst (λ o. ComparesRates (fee_of point) (height_from p o point.0) c.cmp-in-Some.result) (sym c.in-Some.is)
    (compares_line p q point risen rise c.cmp-in-Some.result (omega (arith, c.requires.on.rising q c.in-Some.is)) c.requires.on.from
    (c.rise_times-risen.ensures.product ∙ (λ i. (to_z-of_z w128 point.1 point_fits i -ℤ to_z-of_z w128 p.1 p_fits i) *ℤ pos (q.0 - p.0)))
    (c.rise_times.ensures.product ∙ (λ i. (to_z-of_z w128 q.1 q_fits i -ℤ to_z-of_z w128 p.1 p_fits i) *ℤ pos (point.0 - p.0)))
    (c.cmp-in-Some.ensures ∙ (λ i. int_cmp (to_z-of_z w128 risen risen_fits i) (to_z-of_z w128 rise rise_fits i))))
