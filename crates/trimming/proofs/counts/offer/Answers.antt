use Rattle.std.proofs.Common.{◌∙◌, ℕ, List, inl, inr, true≢false, sym, subst}
use Rattle.std.specs.Prelude.{Contains}
use Rattle.trimming.proofs.Keys.{insert_has}
use Rattle.trimming.proofs.counts.offer.Goals as goal

pub returns-then-not-fits : goal.returns-then-not-fits
returns-then-not-fits c x = ((λ has. inl has), (λ is. elim is [ inl has ↦ has | inr both ↦ absurd (true≢false (sym both.1 ∙ c.if-not-fits.true)) ]))

pub returns : goal.returns
returns c x =
    let keys = c.in_ok-insert.ensures.keys in
    let e = insert_has c.args.ready.now.keys c.args.place x in (
      (λ has. elim (e.0 (subst (λ (l : List ℕ). Contains l x) keys has)) [ inl old ↦ inl old | inr same ↦ inr (same, c.if-not-fits.false) ]),
      (λ is. subst (λ (l : List ℕ). Contains l x) (sym keys) (e.1 (elim is [ inl old ↦ inl old | inr both ↦ inr both.0 ]))),
    )
