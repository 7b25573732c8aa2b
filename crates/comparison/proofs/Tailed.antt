-- What stands in one level alone, with the worst of what stands in both.
use Rattle.std.proofs.Common.{◌≡◌, ℕ, ◌+◌, ◌*◌, ◌≤◌, pos, ◌≤ℤ◌, Bool, List, [], ◌∷◌, ◌++◌, Contains, inl, inr, sym, subst, arith}
use Rattle.std.specs.Iterator.{YieldsFirstBy}
use Rattle.std.proofs.lemmas.List.{append-nil}
use Rattle.std.proofs.lemmas.List.Elements.{Contains-append_left}
use Rattle.lists.proofs.Entries.{none_in_empty}
use Rattle.fee_rate.specs.declared.limits.TheConstants.{MAX_SIZE, MAX_TOTAL}
use Rattle.fee_rate.specs.declared.rates.FeeRate.{FeeRate}
use Rattle.fee_rate.specs.declared.rates.Sum.{Sum}
use Rattle.graphs.specs.declared.names.Level.{Level}
use Rattle.graphs.specs.Rates.{sum_of, Falls}
use Rattle.graphs.proofs.CornerLemmas.{falls-after}
use Rattle.chunk_index.specs.declared.entry.Tag.{Tag}
use Rattle.chunk_index.specs.declared.entry.Tag.TheVariants.{Both, MainOnly, TopOnly}
use Rattle.chunk_index.specs.Items.{is_in, same_tag}
use Rattle.cluster_store.specs.Rates.{EndPaid, IsTail}
use Rattle.cluster_store.specs.Stores.{IsOrdered, Store, parts_of_level}
use Rattle.diagram.specs.Parts.{rate_of, sums_of}
use Rattle.diagram.proofs.StepLemmas.{always_first}
use Rattle.replacement.specs.Changes.{EndsNonNegative, HaveSizes, IsEither, IsEnough, IsMerged}
use Rattle.replacement.specs.Merging.{FitTogether, YieldBoth}
use Rattle.replacement.proofs.MergedWalks.{fewer_fit}
use Rattle.replacement.proofs.PartLists.{all_non_negative, last_decides}
use Rattle.comparison.proofs.Merging.{falls_by, level_merges, rates_by, sizes_by}

falls-front : (xs ys : List Sum) → Falls (xs ++ ys) → Falls xs
falls-front [] ys falls = tt
falls-front (x ∷ []) ys falls = tt
falls-front (x ∷ z ∷ xs) ys falls = (falls.0, falls-front (z ∷ xs) ys falls.1)

-- parts in falling rate of which the last one has a fee of at least 0 all have
all_paid : (upper : List Sum) → HaveSizes upper → Falls upper → EndPaid upper → (part : Sum) → Contains upper part → pos 0 ≤ℤ part.fee
all_paid upper some falls (inl none) part here = absurd (none_in_empty part (subst (λ (xs : List Sum). Contains xs part) none here))
all_paid upper some falls (inr paid) part here =
    (all_non_negative upper some falls (subst (λ (xs : List Sum). EndsNonNegative xs) (sym paid.2) ((last_decides paid.0 paid.1).1 paid.3))).fees part here

module _ (store : Store) (ordered : IsOrdered store.clusters store.order)
    (fits : (level : Level) → FitTogether (sums_of (parts_of_level level store))) where
  abbrev common : List Sum
  common = rates_by (same_tag Both) store

  falls : (test : Tag → Bool) → Falls (rates_by test store)
  falls = falls_by store ordered fits

  module _ (level : Level) (tag : Tag) (alone : (t : Tag) → IsEither (same_tag tag t) (same_tag Both t) (is_in level t)) where
    abbrev own : List Sum
    own = rates_by (same_tag tag) store

    merged : IsMerged own common (sums_of (parts_of_level level store))
    merged = level_merges store ordered fits level tag alone

    -- what stands in one level alone is no larger than a level may be
    pub alone_size : (sum_of own).size ≤ MAX_SIZE * MAX_TOTAL
    alone_size =
        subst (λ (xs : List Sum). (sum_of xs).size ≤ MAX_SIZE * MAX_TOTAL) (append-nil own)
        (fewer_fit own common [] (sums_of (parts_of_level level store))
        (subst (λ (xs : List Sum). IsMerged own xs (sums_of (parts_of_level level store))) (sym (append-nil common)) merged) (fits level)).sizes

    module _ (size : ℕ) (tail : List Sum) (at_end : IsTail size common tail) where
      -- with the tail it merges to the level
      pub tail_merges : IsMerged own (at_end.upper ++ tail) (sums_of (parts_of_level level store))
      tail_merges = subst (λ (xs : List Sum). IsMerged own xs (sums_of (parts_of_level level store))) at_end.is merged

      -- a walk over what stands in one level alone, and one over the tail
      pub yield_both : (alone_walk tail_walk : List Sum) → alone_walk ≡ own → tail_walk ≡ tail
          → YieldBoth {S = List Sum} {T = List Sum} (YieldsFirstBy rate_of (λ rest. rest)) (YieldsFirstBy rate_of (λ rest. rest)) alone_walk tail_walk
          own tail
      yield_both alone_walk tail_walk one other = record {
        one = always_first {A = FeeRate} rate_of alone_walk own one;
        other = always_first {A = FeeRate} rate_of tail_walk tail other;
        falling = falls (same_tag tag);
        more_falling = falls-after at_end.upper tail (subst Falls at_end.is (falls (same_tag Both)));
        fit = fewer_fit own at_end.upper tail (sums_of (parts_of_level level store)) tail_merges (fits level);
      }

  -- the tail is enough
  pub enough : (size main_size top_size : ℕ) (tail : List Sum) (at_end : IsTail size common tail)
      → main_size ≡ (sum_of (rates_by (same_tag MainOnly) store)).size → top_size ≡ (sum_of (rates_by (same_tag TopOnly) store)).size
      → main_size ≤ top_size + size → top_size ≤ main_size + size
      → IsEnough (rates_by (same_tag MainOnly) store) (rates_by (same_tag TopOnly) store) at_end.upper tail
  enough size main_size top_size tail at_end mains tops one other =
      let falling : Falls (at_end.upper ++ tail) = subst Falls at_end.is (falls (same_tag Both)) in
      let some : HaveSizes (at_end.upper ++ tail) = subst HaveSizes at_end.is (sizes_by store ordered fits (same_tag Both)) in
      record {
        falling = falling;
        some = some;
        enough = elim at_end.enough [
          | inl paid ↦
              inl (all_paid at_end.upper (λ part here. some part (Contains-append_left at_end.upper tail part here)) (falls-front at_end.upper tail falling) paid)
          | inr large ↦ inr (record { main = omega (arith, mains, tops, one, large); top = omega (arith, mains, tops, other, large) })
        ];
      }
