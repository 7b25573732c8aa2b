use Rattle.std.proofs.Common.{◌≡◌, arith, sym, subst, ap, ◌∙◌, inl, inr, length}
use Rattle.std.specs.Prelude.{Contains}
use Rattle.std.proofs.lemmas.Bool.{cases_eq}
use Rattle.graphs.specs.Rates.{sums}
use Rattle.graphs.specs.Certificates.{rate_in}
use Rattle.certificate.specs.declared.owned.Part.{Part}
use Rattle.certificate.specs.Fallings.{rate_at}
use Rattle.certificate.specs.Parts.{ids_at}
use Rattle.certificate.proofs.PartLemmas.{ids_here, order_has}
use Rattle.certificate.proofs.FallingLemmas.{rate_read, part_length}
use Rattle.certificate.proofs.falling.are_summed.Goals as goal

pub total-sum-requires-clause-members : goal.total-sum-requires-clause-members
total-sum-requires-clause-members c id here =
    let ids = c.as_slice.ensures ∙ ids_here c.args.parts.now c.loop-part.part-index c.part-item.result c.loop-part-test.true c.part-item.is in
    c.requires.members id (order_has c.args.parts.now c.loop-part.part-index id c.loop-part-test.true (subst (λ l. Contains l id) ids here))

pub total-sum-requires-clause-few : goal.total-sum-requires-clause-few
total-sum-requires-clause-few c =
    let ids = c.as_slice.ensures ∙ ids_here c.args.parts.now c.loop-part.part-index c.part-item.result c.loop-part-test.true c.part-item.is in
    let n = part_length c.args.parts.now c.loop-part.part-index c.loop-part-test.true in
    let m = ap length ids in
    let few = c.requires.few in
    omega arith

pub returns-then-not-is_same : goal.returns-then-not-is_same
returns-then-not-is_same c =
    let ids = c.as_slice.ensures ∙ ids_here c.args.parts.now c.loop-part.part-index c.part-item.result c.loop-part-test.true c.part-item.is in
    let rate = rate_read c.args.parts.now c.loop-part.part-index c.part-item.result c.loop-part-test.true ∙ sym (ap (λ (p : Part). p.rate) c.part-item.is) in
    λ all. c.if-not-is_same.ensures
    (c.total-sum.ensures ∙ ap (sums (rate_in c.args.txs.now)) ids ∙ sym (all c.loop-part.part-index c.loop-part-test.true) ∙ rate)

pub loop-part-preserved : goal.loop-part-preserved
loop-part-preserved c k less =
    let ids = c.as_slice.ensures ∙ ids_here c.args.parts.now c.loop-part.part-index c.part-item.result c.loop-part-test.true c.part-item.is in
    let rate = rate_read c.args.parts.now c.loop-part.part-index c.part-item.result c.loop-part-test.true ∙ sym (ap (λ (p : Part). p.rate) c.part-item.is) in
    let here = rate ∙ sym c.if-not-is_same.ensures ∙ c.total-sum.ensures ∙ ap (sums (rate_in c.args.txs.now)) ids in
    elim (cases_eq k c.loop-part.part-index) [
      | inl same ↦ subst (λ n. rate_at c.args.parts.now n ≡ sums (rate_in c.args.txs.now) (ids_at c.args.parts.now n)) (sym same) here
      | inr other ↦ c.loop-part.invariant k (omega arith)
    ]
