use Rattle.std.proofs.Common.{arith, ◌≤◌, ◌≢◌, [], subst, sym, inl, inr, ap, ◌∙◌}
use Rattle.std.specs.Prelude.{Contains, sum_by}
use Rattle.std.proofs.lemmas.List.Elements.{Contains-push_cases, All-contains}
use Rattle.std.proofs.lemmas.List.Sums.{sum_by_push}
use Rattle.graphs.specs.declared.names.Flow.{Flow}
use Rattle.certificate.specs.declared.owned.Part.{Part}
use Rattle.certificate.specs.Accounts.{amount_of}
use Rattle.order_tests.proofs.Sizes.{cluster_fits}
use Rattle.order_tests.proofs.cluster_tests.claims_of.Goals as goal

pub part_count-count-requires : goal.part_count-count-requires
part_count-count-requires g c = cluster_fits g.row.W c.requires

pub part_of-requires : goal.part_of-requires
part_of-requires g c = (cluster_fits g.row.W c.requires, c.requires)

pub loop-at-preserved : goal.loop-at-preserved
loop-at-preserved g c =
    let old = c.loop-at.claims.items in
    let new = c.in_ok-claim.claim in
    let items = c.in_ok-push.ensures.items in
    let filled = c.in_ok-claim.ensures.filled in
    let some = c.in_ok-claim.ensures.some in
    let sums = sum_by_push (λ (p : Part). amount_of p.flows) old new in
    let total = ap (sum_by (λ (p : Part). amount_of p.flows)) items ∙ sums in (
      λ part here.
          elim (Contains-push_cases old new part (subst (λ l. Contains l part) items here)) [
            | inl before ↦ c.loop-at.invariant.0 part before
            | inr same ↦ subst (λ (p : Part). p.ids ≢ []) same filled
          ],
      λ part flow here there.
          elim (Contains-push_cases old new part (subst (λ l. Contains l part) items here)) [
            | inl before ↦ c.loop-at.invariant.1 part flow before there
            | inr same ↦
                let mine : Contains new.flows flow = subst (λ (p : Part). Contains p.flows flow) (sym same) there in
                All-contains (λ (f : Flow). 1 ≤ f.amount) new.flows flow some mine
          ],
      omega (arith, total, c.in_ok-claim.ensures.small, c.loop-at.invariant.2),
    )
