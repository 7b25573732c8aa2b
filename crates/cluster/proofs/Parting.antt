-- A part by its position.
use Rattle.std.proofs.Common.{◌≡◌, ℕ, zero, suc, ◌+◌, ◌-◌, ◌<◌, ◌≤◌, List, [], ◌∷◌, length, map, take, drop, get_or, slice_index, slice_index_or, refl, sym, ap, ap₂, ◌∙◌, subst, arith, zero-add, Some}
use Rattle.std.specs.Prelude.{slice_get}
use Rattle.std.specs.List.{flat_map}
use Rattle.std.proofs.lemmas.List.{length-map, get_or-map}
use Rattle.std.proofs.lemmas.Option.{get_or_from_slice_get}
use Rattle.graphs.specs.declared.names.Flow.{Flow}
use Rattle.graphs.specs.Certificates.{Part}
use Rattle.fee_rate.specs.declared.rates.Sum.{Sum}
use Rattle.linearize.specs.Drafts.{totals}
use Rattle.cluster.specs.declared.order.PartEnd.{PartEnd}
use Rattle.cluster.specs.Kept.{AreCut, no_end, sum_in}
use Rattle.cluster.proofs.Cuts.{reach, reach_more, reach_within, segment, ended}
use Rattle.cluster.specs.Orders.{no_part}

-- Each part has a list of its own, and these lists stand in one, each from where that of the part before ends.
module _ {A : Type 0} (own : Part → List A) (bound : PartEnd → ℕ) (from_zero : bound no_end ≡ 0)
    (ends : List PartEnd) (whole : List A) (ps : List Part) (long : length ends ≡ length ps)
    (bounds : map bound ends ≡ totals 0 (map (λ part. length (own part)) ps)) (whole_is : flat_map own ps ≡ whole) where
  end_is : (at : ℕ) (d : PartEnd) → at < length ps → bound (slice_index_or ends at d) ≡ reach own ps (at + 1)
  end_is at d below =
      sym (get_or-map bound ends at d 0 (omega (arith, long))) ∙ ap (λ xs. slice_index xs at) bounds
      ∙ ended own ps 0 at below ∙ zero-add (reach own ps (at + 1))

  start_is : (at : ℕ) (before : PartEnd) → at < length ps → before ≡ get_or (no_end ∷ ends) at no_end → bound before ≡ reach own ps at
  start_is zero before below is = ap bound is ∙ from_zero
  start_is (suc k) before below is =
      ap bound is ∙ end_is k no_end (omega arith) ∙ ap (reach own ps) (let e : k + 1 ≡ suc k = omega arith in e)

  module _ (at : ℕ) (before d : PartEnd) (below : at < length ps) (is : before ≡ get_or (no_end ∷ ends) at no_end) where
    range : (bound before ≤ bound (slice_index_or ends at d)) × (bound (slice_index_or ends at d) ≤ length whole)
    range =
        let start = start_is at before below is in let end = end_is at d below in let more = reach_more own ps at no_part below in
        let most = reach_within own ps (at + 1) in let l : length (flat_map own ps) ≡ length whole = ap length whole_is in (omega arith, omega arith)

    segment_is : take (bound (slice_index_or ends at d) - bound before) (drop (bound before) whole) ≡ own (get_or ps at no_part)
    segment_is =
        let start = start_is at before below is in let end = end_is at d below in let more = reach_more own ps at no_part below in
        ap₂ take (let e : bound (slice_index_or ends at d) - bound before ≡ length (own (get_or ps at no_part)) = omega arith in e)
        (ap₂ drop start (sym whole_is)) ∙ segment own ps at no_part below

-- ends that are lent cut as those that are kept
pub lent_cut : {lent ends : List PartEnd} {order : List ℕ} {flows : List Flow} {ps : List Part} → lent ≡ ends → AreCut ends order flows ps
    → AreCut lent order flows ps
lent_cut {lent} {ends} {order} {flows} {ps} same = subst (λ (es : List PartEnd). AreCut es order flows ps) (sym same)

module _ (ends : List PartEnd) (order : List ℕ) (flows : List Flow) (ps : List Part) (so : AreCut ends order flows ps) where
  pub ends_long : length ends ≡ length ps
  ends_long = sym (length-map ends sum_in) ∙ ap length so.rates_are ∙ length-map ps (λ (part : Part). part.rate)

  pub rate_at : (at : ℕ) (d : PartEnd) (rate : Sum) (part : Part) → at < length ps
      → rate ≡ sum_in (slice_index_or ends at d) → slice_get ps at ≡ Some part → rate ≡ part.rate
  rate_at at d rate part below rate_is there =
      let low : at < length ends = subst (λ (n : ℕ). at < n) (sym ends_long) below in
      rate_is ∙ sym (get_or-map sum_in ends at d no_part.rate low) ∙ ap (λ (rates : List Sum). get_or rates at no_part.rate) so.rates_are
      ∙ get_or-map (λ (q : Part). q.rate) ps at no_part no_part.rate below ∙ ap (λ (q : Part). q.rate) (get_or_from_slice_get ps at part no_part there)

  module _ (at : ℕ) (below : at < length ps) where
    pub end_there : at < length ends
    end_there = omega (arith, ends_long, below)

    module _ (before d : PartEnd) (is : before ≡ get_or (no_end ∷ ends) at no_end) where
      pub names_range : (before.end ≤ (slice_index_or ends at d).end) × ((slice_index_or ends at d).end ≤ length order)
      names_range = range (λ q. q.ids) (λ e. e.end) refl ends order ps ends_long so.ends_are so.order_is at before d below is

      pub flows_range : (before.flow_end ≤ (slice_index_or ends at d).flow_end) × ((slice_index_or ends at d).flow_end ≤ length flows)
      flows_range = range (λ q. q.flows) (λ e. e.flow_end) refl ends flows ps ends_long so.flow_ends_are so.flows_are at before d below is

      pub part_at : (rate : Sum) (ids : List ℕ) (own : List Flow) → rate ≡ sum_in (slice_index_or ends at d)
          → ids ≡ take ((slice_index_or ends at d).end - before.end) (drop before.end order)
          → own ≡ take ((slice_index_or ends at d).flow_end - before.flow_end) (drop before.flow_end flows)
          → slice_get ps at ≡ Some (record { rate = rate; ids = ids; flows = own })
      part_at rate ids own rate_is ids_are own_are =
          let one : rate ≡ (get_or ps at no_part).rate =
          rate_is ∙ sym (get_or-map sum_in ends at d no_part.rate end_there) ∙ ap (λ (xs : List Sum). get_or xs at no_part.rate) so.rates_are
          ∙ get_or-map (λ (q : Part). q.rate) ps at no_part no_part.rate below in
          let two : ids ≡ (get_or ps at no_part).ids =
          ids_are ∙ segment_is (λ q. q.ids) (λ e. e.end) refl ends order ps ends_long so.ends_are so.order_is at before d below is in
          let three : own ≡ (get_or ps at no_part).flows =
          own_are ∙ segment_is (λ q. q.flows) (λ e. e.flow_end) refl ends flows ps ends_long so.flow_ends_are so.flows_are at before d below is in
          get_some ps at no_part below ∙ (λ t. Some (record { rate = sym one t; ids = sym two t; flows = sym three t }))
        where
          get_some : {A : Type 0} (xs : List A) (k : ℕ) (d : A) → k < length xs → slice_get xs k ≡ Some (get_or xs k d)
          get_some [] k d below = absurd (omega arith)
          get_some (x ∷ xs) zero d below = refl
          get_some (x ∷ xs) (suc k) d below = get_some xs k d (omega arith)
