use Rattle.std.proofs.Common.{ℕ, ℤ, List, map, nat_eq, subst, arith}
use Rattle.std.specs.HashMap as hash
use Rattle.std.proofs.lemmas.List.{length-map, take_all}
use Rattle.places.specs.Places.{ArePlaces}
use Rattle.places.proofs.Placing.{places_next}
use Rattle.places.proofs.names.places_of.Goals as goal

pub loop-at-preserved : goal.loop-at-preserved
loop-at-preserved c =
    let e = c.in_ok-insert.ensures.updates in
    places_next c.args.txs.now c.loop-at.at _ _ c.loop-at-test.true c.requires c.loop-at.invariant e.1 e.2

pub returns : goal.returns
returns c =
    let names : List ℕ = map (λ (tx : ℕ × ℤ × ℕ). tx.0) c.args.txs.now in
    subst (λ (l : List ℕ). ArePlaces l (hash.get nat_eq c.loop-at.places))
    (take_all c.loop-at.at names (omega (arith, length-map c.args.txs.now (λ (tx : ℕ × ℤ × ℕ). tx.0)))) c.loop-at.invariant
