use Rattle.std.proofs.Common.{◌≡◌, ◌<◌, ℕ, length, inl, inr, sym, ap, subst, arith}
use Rattle.std.specs.Prelude.{Contains}
use Rattle.std.proofs.lemmas.Bool.{cases_eq}
use Rattle.trimming.specs.Nets.{list_at}
use Rattle.trimming.proofs.Listing.{list_read}
use Rattle.trimming.proofs.Counting.{empty_told}
use Rattle.trimming.proofs.counts.first_counts.Goals as goal

pub loop-place-preserved : goal.loop-place-preserved
loop-place-preserved c p =
    let parents = c.args.net.now.parents.items in
    let place = c.loop-place.place in
    let low : place < length parents = omega (arith, c.loop-place-test.true, c.len-place-end.ensures) in
    let same : c.index.result.now.items ≡ list_at parents place = list_read parents place c.index.result.now low c.index.ensures in
    let told = empty_told _ (list_at parents place) c.is_empty.result (omega (arith, ap length same)) c.is_empty.ensures in
    let is = c.loop-place.invariant p in
    let e = c.in_ok-offer.ensures p in (
      (λ has. elim (e.0 has) [
        | inl old ↦ let i = is.0 old in (omega (arith, i.0), i.1)
        | inr both ↦ (omega (arith, both.0), λ a up. told.0 both.1 a (subst (λ (q : ℕ). Contains (list_at parents q) a) both.0 up))
      ]),
      (λ i. e.1 (elim (cases_eq p place) [
        | inl equal ↦ inr (equal, told.1 (λ a up. i.1 a (subst (λ (q : ℕ). Contains (list_at parents q) a) (sym equal) up)))
        | inr other ↦ inl (is.1 (omega (arith, i.0, other), i.1))
      ])),
    )

pub returns-clause-ready : goal.returns-clause-ready
returns-clause-ready c p =
    let sized = c.requires.parents_sized in
    let is = c.loop-place.invariant p in
    let end = c.loop-place.auto.place-end in
    let past = c.loop-place-test.false in
    ((λ has. let i = is.0 has in (omega (arith, i.0, end, c.len-place-end.ensures, sized), i.1)), (λ i. is.1 (omega (arith, i.0, past, c.len-place-end.ensures, sized), i.1)))
