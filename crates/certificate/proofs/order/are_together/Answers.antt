use Rattle.std.proofs.Common.{arith, sym, subst, ◌∙◌, nat_eq, inl, inr}
use Rattle.std.specs.Prelude.{Contains}
use Rattle.std.specs.HashMap as hash
use Rattle.std.proofs.lemmas.Bool.{cases_eq}
use Rattle.certificate.specs.Orders.{AreOfOneGroup}
use Rattle.certificate.specs.Parts.{ids_at}
use Rattle.certificate.proofs.PartLemmas.{ids_here, order_has}
use Rattle.certificate.proofs.order.are_together.Goals as goal

pub is_together-requires : goal.is_together-requires
is_together-requires c id here =
    let ids = c.as_slice.ensures ∙ ids_here c.args.parts.now c.loop-part.part-index c.part-item.result c.loop-part-test.true c.part-item.is in
    c.requires id (order_has c.args.parts.now c.loop-part.part-index id c.loop-part-test.true (subst (λ l. Contains l id) ids here))

pub returns-then-not-is_together : goal.returns-then-not-is_together
returns-then-not-is_together c all =
    let ids = c.as_slice.ensures ∙ ids_here c.args.parts.now c.loop-part.part-index c.part-item.result c.loop-part-test.true c.part-item.is in
    c.if-not-is_together.ensures (subst (λ l. AreOfOneGroup (hash.get nat_eq c.args.names.now) c.args.groups.now l)
    (sym ids) (all c.loop-part.part-index c.loop-part-test.true))

pub loop-part-preserved : goal.loop-part-preserved
loop-part-preserved c k less =
    let ids = c.as_slice.ensures ∙ ids_here c.args.parts.now c.loop-part.part-index c.part-item.result c.loop-part-test.true c.part-item.is in
    let here = subst (λ l. AreOfOneGroup (hash.get nat_eq c.args.names.now) c.args.groups.now l) ids c.if-not-is_together.ensures in
    elim (cases_eq k c.loop-part.part-index) [
      | inl same ↦ subst (λ i. AreOfOneGroup (hash.get nat_eq c.args.names.now) c.args.groups.now (ids_at c.args.parts.now i)) (sym same) here
      | inr other ↦ c.loop-part.invariant k (omega arith)
    ]

pub returns : goal.returns
returns c k less = c.loop-part.invariant k (omega arith)
