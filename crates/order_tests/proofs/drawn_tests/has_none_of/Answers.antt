use Rattle.std.proofs.Common.{arith, ℕ, ◌∷◌, [], List, take, slice_index, Contains, inl, inr, sym, subst}
use Rattle.std.proofs.lemmas.List.{take_all, take_more}
use Rattle.std.proofs.lemmas.List.Elements.{Contains-append_cases}
use Rattle.lists.proofs.Cases.{clash}
use Rattle.lists.proofs.Entries.{Contains-one}
use Rattle.order_tests.proofs.drawn_tests.has_none_of.Goals as goal

pub loop-at-preserved : goal.loop-at-preserved
loop-at-preserved c = λ id here there.
    (let ids : List ℕ = c.args.ids.now in
    let at : ℕ = c.loop-at.at in
    let more = subst (λ (xs : List ℕ). Contains xs id) (take_more ids at 0 c.loop-at-test.true) here in
    elim (Contains-append_cases (take at ids) (slice_index ids at ∷ []) id more) [
      | inl before ↦ c.loop-at.invariant id before there
      | inr last ↦
          let same = sym (Contains-one (slice_index ids at) id last) in
          clash _ (c.has.ensures.1 (subst (λ (x : ℕ). Contains c.args.cluster.now.names x) same there)) c.if-has.false
    ])

pub returns : goal.returns
returns c = λ _ id here there.
    (let ids : List ℕ = c.args.ids.now in
    let end = c.loop-at-test.false in
    let all = take_all c.loop-at.at ids (omega (arith, end)) in
    c.loop-at.invariant id (subst (λ (xs : List ℕ). Contains xs id) (sym all) here) there)
