use Rattle.std.proofs.Common.{List, [], ◌∷◌, ◌++◌, take, inl, inr, sym, ap, ◌∙◌, subst, arith}
use Rattle.std.specs.Prelude.{Contains}
use Rattle.std.proofs.lemmas.List.{take_all, take_more}
use Rattle.std.proofs.lemmas.List.Elements.{Contains-push_cases}
use Rattle.links.specs.Links.{Links, AreLinks}
use Rattle.record.proofs.leaving.read_all.Goals as goal

pub loop-at-preserved : goal.loop-at-preserved
loop-at-preserved c part here = elim (
    Contains-push_cases (take c.loop-at.at c.args.parts.now) c.index-parts-at.result part
    (subst (λ (ps : List Links). Contains ps part)
    (take_more c.args.parts.now c.loop-at.at c.index-parts-at.result c.loop-at-test.true
    ∙ ap (λ (p : Links). take c.loop-at.at c.args.parts.now ++ p ∷ []) (sym c.index-parts-at.is)) here)
    ) [
      | inl before ↦ c.loop-at.invariant part before
      | inr same ↦ subst AreLinks same c.txs-txs.ensures.whole
    ]

pub returns : goal.returns
returns c part here =
    c.loop-at.invariant part
    (subst (λ (ps : List Links). Contains ps part) (sym (take_all c.loop-at.at c.args.parts.now (omega (arith, c.loop-at-test.false)))) here)
