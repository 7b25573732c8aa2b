use Rattle.std.proofs.Common.{◌≡◌, ◌∙◌, ℕ, List, length, get_or, inl, inr, sym, ap, subst, arith, eq-eqb, ne_eqb, true≢false}
use Rattle.std.specs.Prelude.{Contains}
use Rattle.std.proofs.lemmas.Bool.{cases_eq}
use Rattle.std.proofs.lemmas.List.Elements.{Contains-get_or}
use Rattle.trimming.specs.Nets.{list_at}
use Rattle.trimming.proofs.Listing.{list_read}
use Rattle.trimming.proofs.Counting.{all_kept}
use Rattle.trimming.proofs.counts.advance.Goals as goal
use Rattle.trimming.proofs.counts.advance.Goals.{then-loop-count-test+else-kept-parents, else-loop-count-test}

pub bounds-kept-parents : goal.bounds-kept-parents
bounds-kept-parents c =
    let sized = c.requires.net.parents_sized in
    let same : c.as_slice-parents.result.now ≡ list_at c.args.net.now.parents.items c.args.place =
    c.as_slice-parents.ensures.value ∙ list_read c.args.net.now.parents.items c.args.place c.index.result.now (omega (arith, sized, c.requires.place)) c.index.ensures in
    let here : Contains c.as_slice-parents.result.now (get_or c.as_slice-parents.result.now c.loop-count.count 0) =
    Contains-get_or c.as_slice-parents.result.now c.loop-count.count 0 (omega (arith, c.loop-count-test.true)) in
    let low = (c.requires.net.within _ c.args.place (subst (λ (l : List ℕ). Contains l (get_or c.as_slice-parents.result.now c.loop-count.count 0)) same here)).0 in
    omega (arith, low, c.requires.kept)

pub returns-clause-all : goal.returns-clause-all
returns-clause-all c =
    let net = c.args.net.now in
    let list = c.as_slice-parents.result.now in
    let sized = c.requires.net.parents_sized in
    let same : list ≡ list_at net.parents.items c.args.place =
    c.as_slice-parents.ensures.value ∙ list_read net.parents.items c.args.place c.index.result.now (omega (arith, sized, c.requires.place)) c.index.ensures in
    let inv = c.loop-count.invariant in
    elim (cases_eq c.loop-count.count (length list)) [
      | inl end ↦ (
        (λ done. all_kept net c.args.kept.now c.args.place c.loop-count.count inv.are (end ∙ ap length same)),
        (λ all. eq-eqb c.loop-count.count (length list) end),
      )
      | inr other ↦ (
        (λ done. absurd (true≢false (sym done ∙ ne_eqb c.loop-count.count (length list) other))),
        (λ all. elim c.loop-count-test.branch [
          | then-loop-count-test+else-kept-parents w ↦
              let here : Contains list (get_or list c.loop-count.count 0) =
              Contains-get_or list c.loop-count.count 0 (omega (arith, w.loop-count-test.true)) in
              absurd (true≢false (sym (all _ (subst (λ (l : List ℕ). Contains l (get_or list c.loop-count.count 0)) same here)) ∙ w.if-kept-parents.false))
          | else-loop-count-test w ↦ absurd (other (omega (arith, w.loop-count-test.false, inv.few, ap length same)))
        ]),
      )
    ]
