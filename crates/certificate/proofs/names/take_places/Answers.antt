use Rattle.std.proofs.Common.{◌<◌, sym, ◌∙◌, subst, ℕ, ℤ, arith, map}
use Rattle.std.proofs.lemmas.List.{length-map, take_all}
use Rattle.lists.specs.Distinct.{AreDistinct}
use Rattle.places.proofs.Placing.{name_at}
use Rattle.certificate.proofs.PlaceLemmas.{places_next, places_again, places_distinct}
use Rattle.certificate.proofs.names.take_places.Goals as goal

pub loop-at-preserved : goal.loop-at-preserved
loop-at-preserved c =
    let e = c.put_place.ensures in (
      places_next _ c.loop-at.at _ _ _ (subst (λ n. c.loop-at.at < n) (sym (length-map c.args.txs.now (λ (tx : ℕ × ℤ × ℕ). tx.0))) c.loop-at-test.true)
          (name_at c.args.txs.now c.loop-at.at c.loop-at-test.true) c.loop-at.invariant.0 (sym e.old ∙ c.in_default.is)
          e.here.1 e.here.2,
      omega (arith, e.room, c.loop-at.invariant.1),
    )

pub returns-in-Some-clause-once : goal.returns-in-Some-clause-once
returns-in-Some-clause-once c =
    let e = c.put_place.ensures in
    places_again _ c.loop-at.at _ _ _ (subst (λ n. c.loop-at.at < n) (sym (length-map c.args.txs.now (λ (tx : ℕ × ℤ × ℕ). tx.0))) c.loop-at-test.true)
    (name_at c.args.txs.now c.loop-at.at c.loop-at-test.true) c.loop-at.invariant.0
    (sym e.old ∙ c.in-Some.is)

pub returns-clause-once : goal.returns-clause-once
returns-clause-once c =
    let names = map (λ (tx : ℕ × ℤ × ℕ). tx.0) c.args.txs.now in
    let whole = take_all c.loop-at.at names (omega (arith, length-map c.args.txs.now (λ (tx : ℕ × ℤ × ℕ). tx.0))) in
    subst (λ l. AreDistinct l) whole (places_distinct _ _ c.loop-at.invariant.0)
