use Rattle.std.proofs.Common.{rules, ℕ, ◌<◌, get_or, inl, inr, sym, ◌∙◌, subst, arith}
use Rattle.std.specs.Prelude.{IsTrue}
use Rattle.std.proofs.lemmas.Bool.{cases_eq}
use Rattle.std.proofs.lemmas.List.{get_or_default}
use Rattle.links.specs.Links.{Has}
use Rattle.leaf_tests.proofs.links_tests.has_all.Goals as goal

pub loop-id-preserved : goal.loop-id-preserved
loop-id-preserved c k low =
    let there : IsTrue c.has.result = search rules in
    elim (cases_eq k c.loop-id.id-index) [
      | inl same ↦ subst (λ (i : ℕ). Has c.args.links.now (get_or c.args.ids.now i 0)) (sym same) (c.has.ensures.0 there)
      | inr other ↦ (let less : k < c.loop-id.id-index = omega arith in c.loop-id.invariant k less)
    ]

pub returns : goal.returns
returns c told id (k, low, at) =
    subst (Has c.args.links.now) (get_or_default c.args.ids.now k 0 id low ∙ at) (c.loop-id.invariant k (omega arith))
