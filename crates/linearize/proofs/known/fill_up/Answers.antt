use Rattle.std.proofs.Common.{◌≡◌, ◌∷◌, ◌++◌, [], ◌∙◌, List, length, length-append, append_assoc, ap, sym, inl, inr, arith, rules}
use Rattle.std.proofs.lemmas.List.Elements.{Contains-append_cases}
use Rattle.std.specs.Prelude.{Option, None}
use Rattle.lists.proofs.Entries.{Contains-one}
use Rattle.linearize.specs.declared.old.OldPart.{OldPart}
use Rattle.linearize.proofs.known.fill_up.Goals as goal

pub loop-froms-preserved : goal.loop-froms-preserved
loop-froms-preserved c =
    let items : c.push.new.self.items ≡ c.loop-froms.froms.items ++ None ∷ [] = search rules in
    let old = c.loop-froms.invariant.0 in
    let long = ap length items ∙ length-append c.loop-froms.froms.items (None ∷ []) in
    let low = c.loop-froms-test.true in (
      (
        old.0 ++ None ∷ [],
        items ∙ ap (λ (xs : List (Option OldPart)). xs ++ None ∷ []) old.1 ∙ append_assoc c.args.froms.now.items old.0 (None ∷ []),
        λ from here. elim (Contains-append_cases old.0 (None ∷ []) from here) as (λ _. from ≡ None) [
          | inl before ↦ old.2 from before
          | inr last ↦ sym (Contains-one None from last)
        ],
      ),
      omega (arith, long, low, c.loop-froms.froms.ok.0),
    )
