-- Two components together within the limits or over them.
use Rattle.std.proofs.Common.{◌≡◌, ◌⊎◌, ◌+◌, ◌<◌, ◌≤◌, ◌++◌, ℕ, List, length, length-append, inl, inr, sym, ap, ap₂, ◌∙◌, subst₂, arith}
use Rattle.std.specs.Prelude.{sum_by}
use Rattle.std.proofs.lemmas.Bool.{cases_lt}
use Rattle.std.proofs.lemmas.List.Sums.{sum_by-append}
use Rattle.arithmetic.proofs.Sums.{sum_by_along}
use Rattle.fee_rate.specs.declared.rates.FeeRate.{FeeRate}
use Rattle.graph_model.specs.declared.names.Limits.{Limits}
use Rattle.cluster.specs.Clusters.{Cluster, IsCluster}
use Rattle.cluster.specs.Changes.{Joins}
use Rattle.record.specs.Records.{IsConnected, IsFitted, IsOver}
use Rattle.record.specs.Changes.{AreJoined}
use Rattle.record.proofs.Connected.{IsCluster-connected}
use Rattle.record.proofs.Fitting.{size_in}

-- so many names, of this size together
abbrev pub AreMore : Limits → ℕ → ℕ → Type 0
AreMore limits count size = (limits.count < count) ⊎ (limits.size < size)

abbrev pub total : Cluster → ℕ
total c = sum_by (size_in c) c.names

-- where they aren't over, there are few
pub are_few : (limits : Limits) (most count size : ℕ) → limits.count ≤ most → (AreMore limits count size → ⊥) → count ≤ most
are_few limits most count size few none = elim (cases_lt limits.count count) [
  | inl many ↦ absurd (none (inl many))
  | inr low ↦ omega (arith, low, few)
]

module _ (limits : Limits) (one other : Cluster) (none : AreMore limits (length one.names + length other.names) (total one + total other) → ⊥) where
  pub first_within : (most : ℕ) → IsFitted most limits one → IsCluster most one
  first_within most fitted =
      fitted.within (λ over. elim over [
        | inl many ↦ none (inl (omega (arith, many)))
        | inr large ↦ none (inr (omega (arith, large)))
      ])

  pub second_within : (most : ℕ) → IsFitted most limits other → IsCluster most other
  second_within most fitted =
      fitted.within (λ over. elim over [
        | inl many ↦ none (inl (omega (arith, many)))
        | inr large ↦ none (inr (omega (arith, large)))
      ])

module _ (one other r : Cluster) (parent child : ℕ) (first : IsConnected one) (second : IsConnected other) (names : r.names ≡ one.names ++ other.names)
    (joins : Joins one.graph other.graph parent child r.graph) where
  count : length r.names ≡ length one.names + length other.names
  count = ap (λ (xs : List ℕ). length xs) names ∙ length-append one.names other.names

  sizes : total r ≡ total one + total other
  sizes =
      ap (sum_by (size_in r)) names ∙ sum_by-append (size_in r) one.names other.names
      ∙ ap₂ (λ (m n : ℕ). m + n)
      (sum_by_along (size_in r) (size_in one) one.names (λ id here. ap (λ (rate : FeeRate). rate.size) (joins.first_rates id ((first.members id).1 here))))
      (sum_by_along (size_in r) (size_in other) other.names (λ id here. ap (λ (rate : FeeRate). rate.size) (joins.second_rates id ((second.members id).1 here))))

  pub over_together : (limits : Limits) → AreMore limits (length one.names + length other.names) (total one + total other) → IsOver limits r
  over_together limits more = subst₂ (λ (m n : ℕ). AreMore limits m n) (sym count) (sym sizes) more

  pub together_over : (limits : Limits) → IsOver limits r → AreMore limits (length one.names + length other.names) (total one + total other)
  together_over limits over = subst₂ (λ (m n : ℕ). AreMore limits m n) count sizes over

-- the record of both, over the limits
pub joined_fits_over : (most : ℕ) (limits : Limits) (one other r : Cluster) (parent child : ℕ) → IsConnected one → IsConnected other
    → AreMore limits (length one.names + length other.names) (total one + total other) → AreJoined one other parent child r → IsFitted most limits r
joined_fits_over most limits one other r parent child first second more joined = record {
  connected = joined.connected;
  within = λ not_over. absurd (not_over (over_together one other r parent child first second joined.names joined.graph limits more));
  over = λ _. joined.none;
}

-- and within them
pub joined_fits_within : (most : ℕ) (limits : Limits) (one other r : Cluster) (parent child : ℕ) → IsConnected one → IsConnected other
    → (AreMore limits (length one.names + length other.names) (total one + total other) → ⊥) → r.names ≡ one.names ++ other.names
    → Joins one.graph other.graph parent child r.graph → IsCluster most r → IsFitted most limits r
joined_fits_within most limits one other r parent child first second none names joins whole = record {
  connected = IsCluster-connected most r whole;
  within = λ _. whole;
  over = λ over. absurd (none (together_over one other r parent child first second names joins limits over));
}
