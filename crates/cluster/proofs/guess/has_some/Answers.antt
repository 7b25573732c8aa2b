use Rattle.std.proofs.Common.{◌≡◌, ℕ, ◌∷◌, [], ◌∙◌, List, true, take, slice_index, Contains, inl, inr, sym, subst}
use Rattle.std.proofs.lemmas.List.{take_more}
use Rattle.std.proofs.lemmas.List.Elements.{Contains-append_cases}
use Rattle.std.specs.FinSet as set
use Rattle.lists.proofs.Cases.{clash}
use Rattle.lists.proofs.Distinct.{one_place}
use Rattle.lists.proofs.Entries.{Contains-one}
use Rattle.cluster.proofs.guess.has_some.Goals as goal

pub loop-at-preserved : goal.loop-at-preserved
loop-at-preserved g c = λ p low here chosen.
    (let ids : List ℕ = c.args.ids.now in
    let at : ℕ = c.loop-at.at in
    let names : List ℕ = c.args.names.now in
    let more = subst (λ (xs : List ℕ). Contains xs (slice_index names p)) (take_more ids at 0 c.loop-at-test.true) here in
    elim (Contains-append_cases (take at ids) (slice_index ids at ∷ []) (slice_index names p) more) [
      | inl before ↦ c.loop-at.invariant p low before chosen
      | inr last ↦
          let same : p ≡ c.find-place.result = one_place names p c.find-place.result 0 c.requires.once low c.if-place-names.false
          (sym (Contains-one (slice_index ids at) (slice_index names p) last) ∙ sym (c.find-place.ensures c.if-place-names.false)) in
          clash _ (subst (λ (k : ℕ). set.contains c.args.chosen.now k ≡ true) same chosen) (sym c.has.ensures ∙ c.if-has.false)
    ])
