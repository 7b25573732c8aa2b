use Rattle.std.proofs.Common.{arith, ◌≤◌, ◌≢◌, [], subst, sym, inl, inr, ap, ◌∙◌}
use Rattle.std.specs.Prelude.{Contains, sum_by}
use Rattle.std.proofs.lemmas.List.Elements.{Contains-push_cases, All-contains}
use Rattle.std.proofs.lemmas.List.Sums.{sum_by_push}
use Rattle.graphs.specs.declared.names.Flow.{Flow}
use Rattle.certificate.specs.declared.owned.Part.{Part}
use Rattle.certificate.specs.Accounts.{amount_of}
use Rattle.session_tests.proofs.certificate_tests.parts_of.Goals as goal

pub loop-claim-preserved : goal.loop-claim-preserved
loop-claim-preserved g c =
    let new = c.in_ok-part_of.field-0 in
    let items = c.in_ok-push.ensures.items in (
      λ part here.
          elim (Contains-push_cases c.loop-claim.parts.items new part (subst (λ l. Contains l part) items here)) [
            | inl old ↦ c.loop-claim.invariant.0 part old
            | inr same ↦ subst (λ (p : Part). p.ids ≢ []) same c.in_ok-part_of.ensures.filled
          ],
      λ part flow here there.
          elim (Contains-push_cases c.loop-claim.parts.items new part (subst (λ l. Contains l part) items here)) [
            | inl old ↦ c.loop-claim.invariant.1 part flow old there
            | inr same ↦ All-contains (λ (f : Flow). 1 ≤ f.amount) new.flows flow c.in_ok-part_of.ensures.some
                (subst (λ (p : Part). Contains p.flows flow) (sym same) there)
          ],
      omega (
        arith,
        ap (sum_by (λ (p : Part). amount_of p.flows)) items ∙ sum_by_push (λ (p : Part). amount_of p.flows) c.loop-claim.parts.items new,
        c.in_ok-part_of.ensures.small,
        c.loop-claim.invariant.2,
      ),
    )
