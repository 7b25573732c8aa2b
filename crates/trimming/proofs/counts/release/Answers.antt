use Rattle.std.proofs.Common.{◌≡◌, ◌∙◌, ◌<◌, ℕ, List, length, take, get_or, inl, inr, sym, ap, subst, arith}
use Rattle.std.specs.Prelude.{Contains}
use Rattle.std.proofs.lemmas.List.{take_all, take_more}
use Rattle.std.proofs.lemmas.List.Elements.{Contains-get_or, Contains-append_left, Contains-push, Contains-push_cases}
use Rattle.trimming.specs.Nets.{list_at}
use Rattle.trimming.proofs.Listing.{list_read}
use Rattle.trimming.specs.Counts.{HasAllKept}
use Rattle.trimming.proofs.counts.release.Goals as goal

pub advance-all-requires-clause-place : goal.advance-all-requires-clause-place
advance-all-requires-clause-place c =
    let sized = c.requires.net.children_sized in
    let list = c.as_slice-child-items.result.now in
    let same : list ≡ list_at c.args.net.now.children.items c.args.place =
    c.as_slice-child-items.ensures.value ∙ list_read c.args.net.now.children.items c.args.place c.index.result.now (omega (arith, sized, c.requires.place)) c.index.ensures in
    let here : Contains list (get_or list c.loop-child.child-index 0) = Contains-get_or list c.loop-child.child-index 0 (omega (arith, c.loop-child-test.true)) in
    let child = subst (λ (l : List ℕ). Contains l (get_or list c.loop-child.child-index 0)) same here in
    (c.requires.net.within c.args.place _ ((c.requires.net.children c.args.place _).0 child)).1

pub loop-child-preserved : goal.loop-child-preserved
loop-child-preserved c =
    let net = c.args.net.now in
    let list = c.as_slice-child-items.result.now in
    let k = c.loop-child.child-index in
    let sized = c.requires.net.children_sized in
    let same : list ≡ list_at net.children.items c.args.place =
    c.as_slice-child-items.ensures.value ∙ list_read net.children.items c.args.place c.index.result.now (omega (arith, sized, c.requires.place)) c.index.ensures in
    let low : k < length (list_at net.children.items c.args.place) = omega (arith, c.loop-child-test.true, ap length same) in
    let child : ℕ = get_or list k 0 in
    let is : child ≡ get_or (list_at net.children.items c.args.place) k 0 = ap (λ (l : List ℕ). get_or l k 0) same in
    let all = c.advance-all.ensures.all in
    record {
      passed = c.advance-all.ensures.passed;
      ready = λ x.
          let e = c.in_ok-offer.ensures x in
          let old = c.loop-child.invariant.ready x in
          let more = take_more (list_at net.children.items c.args.place) k 0 low in (
            (λ has. elim (e.0 has) [
              | inl before ↦ elim (old.0 before) [
                | inl first ↦ inl first
                | inr both ↦ inr (subst (λ (l : List ℕ). Contains l x) (sym more) (Contains-append_left _ _ x both.0), both.1)
              ]
              | inr both ↦ inr (
                subst (λ (l : List ℕ). Contains l x) (sym more) (subst (Contains _) (sym (both.0 ∙ is)) (Contains-push (take k (list_at net.children.items c.args.place)) _)),
                subst (HasAllKept net c.args.kept.now) (sym both.0) (all.0 both.1),
              )
            ]),
            (λ has. e.1 (elim has [
              | inl first ↦ inl (old.1 (inl first))
              | inr both ↦ elim (Contains-push_cases (take k (list_at net.children.items c.args.place)) _ x (subst (λ (l : List ℕ). Contains l x) more both.0)) [
                | inl before ↦ inl (old.1 (inr (before, both.1)))
                | inr last ↦ inr (sym last ∙ sym is, all.1 (subst (HasAllKept net c.args.kept.now) (sym last ∙ sym is) both.1))
              ]
            ])),
          );
    }

pub returns-clause-ready : goal.returns-clause-ready
returns-clause-ready c x =
    let net = c.args.net.now in
    let list = c.as_slice-child-items.result.now in
    let sized = c.requires.net.children_sized in
    let same : list ≡ list_at net.children.items c.args.place =
    c.as_slice-child-items.ensures.value ∙ list_read net.children.items c.args.place c.index.result.now (omega (arith, sized, c.requires.place)) c.index.ensures in
    let all = take_all c.loop-child.child-index (list_at net.children.items c.args.place) (omega (arith, ap length same, c.loop-child-test.false)) in
    let is = c.loop-child.invariant.ready x in
    let up = c.requires.net.children c.args.place x in (
      (λ has. elim (is.0 has) [ inl first ↦ inl first | inr both ↦ inr (up.0 (subst (λ (l : List ℕ). Contains l x) all both.0), both.1) ]),
      (λ has. is.1 (elim has [ inl first ↦ inl first | inr both ↦ inr (subst (λ (l : List ℕ). Contains l x) (sym all) (up.1 both.0), both.1) ])),
    )
