use Rattle.std.proofs.Common.{◌≡◌, ◌+◌, ◌-◌, ◌≤◌, arith, sym, subst, inl, inr, get_or}
use Rattle.std.proofs.lemmas.Bool.{cases_eq}
use Rattle.fee_rate.specs.Limits.{IsSum}
use Rattle.fee_rate.specs.Rates.{AtMost, Below}
use Rattle.certificate.specs.Fallings.{rate_at}
use Rattle.certificate.proofs.FallingLemmas.{rate_read, rates_clash, rates_fall}
use Rattle.certificate.proofs.falling.rates_fall.Goals as goal

pub is_below-requires-clause-a_in : goal.is_below-requires-clause-a_in
is_below-requires-clause-a_in c =
    subst (λ r. IsSum r) (rate_read c.args.parts.now (c.loop-at.at - 1) c.index-parts-at.result (omega arith)) (c.requires (c.loop-at.at - 1) (omega arith)).0

pub is_below-requires-clause-b_in : goal.is_below-requires-clause-b_in
is_below-requires-clause-b_in c =
    subst (λ r. IsSum r) (rate_read c.args.parts.now c.loop-at.at c.index-parts-at-in-loop-at.result (omega arith)) (c.requires c.loop-at.at (omega arith)).0

pub is_below-requires-clause-a_some : goal.is_below-requires-clause-a_some
is_below-requires-clause-a_some c =
    subst (λ r. 1 ≤ r.size) (rate_read c.args.parts.now (c.loop-at.at - 1) c.index-parts-at.result (omega arith))
    (c.requires (c.loop-at.at - 1) (omega arith)).1

pub is_below-requires-clause-b_some : goal.is_below-requires-clause-b_some
is_below-requires-clause-b_some c =
    subst (λ r. 1 ≤ r.size) (rate_read c.args.parts.now c.loop-at.at c.index-parts-at-in-loop-at.result (omega arith)) (c.requires c.loop-at.at (omega arith)).1

pub returns-then-is_below : goal.returns-then-is_below
returns-then-is_below c =
    let a = rate_read c.args.parts.now (c.loop-at.at - 1) c.index-parts-at.result (omega arith) in
    let b = rate_read c.args.parts.now c.loop-at.at c.index-parts-at-in-loop-at.result (omega arith) in
    rates_clash c.args.parts.now c.loop-at.at (omega arith) (omega arith)
    (subst (λ r. Below r (rate_at c.args.parts.now c.loop-at.at)) (sym a)
    (subst (λ r. Below (get_or c.args.parts.now (c.loop-at.at - 1) c.index-parts-at.result).rate r) (sym b) c.if-is_below.ensures))

pub loop-at-preserved : goal.loop-at-preserved
loop-at-preserved c k less =
    let a = rate_read c.args.parts.now (c.loop-at.at - 1) c.index-parts-at.result (omega arith) in
    let b = rate_read c.args.parts.now c.loop-at.at c.index-parts-at-in-loop-at.result (omega arith) in
    let here : AtMost (rate_at c.args.parts.now c.loop-at.at) (rate_at c.args.parts.now (c.loop-at.at - 1)) =
    subst (λ r. AtMost (rate_at c.args.parts.now c.loop-at.at) r) (sym a)
    (subst (λ r. AtMost r (get_or c.args.parts.now (c.loop-at.at - 1) c.index-parts-at.result).rate) (sym b) c.if-is_below.ensures)
    in
    elim (cases_eq (k + 1) c.loop-at.at) [
      | inl same ↦
          (let low : c.loop-at.at - 1 ≡ k = omega arith in
          subst (λ n. AtMost (rate_at c.args.parts.now n) (rate_at c.args.parts.now k)) (sym same)
          (subst (λ n. AtMost (rate_at c.args.parts.now c.loop-at.at) (rate_at c.args.parts.now n)) low here))
      | inr other ↦ c.loop-at.invariant k (omega arith)
    ]

pub returns : goal.returns
returns c = rates_fall c.args.parts.now (λ k less. c.loop-at.invariant k (omega arith))
