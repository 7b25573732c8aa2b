-- Some names of a component within the limits are within them too.
use Rattle.std.proofs.Common.{◌≡◌, ℕ, ◌+◌, ◌≤◌, ◌||◌, Bool, false, cond, List, length, map, Contains, inl, inr, ap, ap₂, le-ltb, arith, ◌↔◌, ◌⊎◌, ◌<◌, true, nat_lt, lt-ltb}
use Rattle.std.specs.Prelude.{All, sum_by}
use Rattle.std.proofs.lemmas.Bool.{cases_lt, or_cases, or_left, or_right, ltb-true}
use Rattle.std.proofs.lemmas.List.Elements.{All-weaker, All-contains_itself, All-contains}
use Rattle.arithmetic.proofs.Sums.{sum_by_along}
use Rattle.lists.specs.Distinct.{AreDistinct}
use Rattle.lists.proofs.Distinct.{distinct_within}
use Rattle.lists.proofs.Entries.{Contains-map}
use Rattle.lists.proofs.Flats.{flat_has, flat_part_once}
use Rattle.fee_rate.specs.declared.rates.FeeRate.{FeeRate}
use Rattle.graph_model.specs.declared.names.Limits.{Limits}
use Rattle.cluster.specs.Clusters.{Cluster, IsCluster}
use Rattle.cluster.specs.Changes.{AreComponents, IsSplit}
use Rattle.cluster.specs.Steps.{most_steps, most_steps_of}
use Rattle.record.specs.Records.{IsFitted}
use Rattle.record.specs.Steps.{is_over, most_steps_fit, most_steps_fit_of, most_steps_within, total_size}
use Rattle.record.proofs.Connected.{IsCluster-connected}
use Rattle.record.proofs.Fitting.{size_in}
use Rattle.record.proofs.Ordered.{has_parts}

-- the test says what it is to be over the limits
pub not_over : (limits : Limits) (count size : ℕ) → count ≤ limits.count → size ≤ limits.size → is_over limits count size ≡ false
not_over limits count size few small = ap₂ (λ (b c : Bool). b || c) (le-ltb limits.count count few) (le-ltb limits.size size small)

pub over_tells : (limits : Limits) (count size : ℕ) → (is_over limits count size ≡ true) ↔ ((limits.count < count) ⊎ (limits.size < size))
over_tells limits count size = (
  (λ e. elim (or_cases (nat_lt limits.count count) (nat_lt limits.size size) e) [
    | inl many ↦ inl (ltb-true limits.count count many)
    | inr large ↦ inr (ltb-true limits.size size large)
  ]),
  (λ more. elim more [
    | inl many ↦ or_left (nat_lt limits.count count) (nat_lt limits.size size) (lt-ltb limits.count count many)
    | inr large ↦ or_right (nat_lt limits.count count) (nat_lt limits.size size) (lt-ltb limits.size size large)
  ]),
)

pub within_steps : (limits : Limits) (count size : ℕ) → count ≤ limits.count → size ≤ limits.size
    → most_steps_within limits count size ≡ most_steps count
within_steps limits count size few small = ap (λ (b : Bool). cond b 0 (most_steps count)) (not_over limits count size few small)

module _ (most : ℕ) (limits : Limits) (c : Cluster) (gone : List ℕ) (whole : IsCluster most c) (fitted : IsFitted most limits c) where
  low_count : length c.names ≤ limits.count
  low_count = elim (cases_lt limits.count (length c.names)) [
    | inl many ↦ absurd (has_parts most c whole (fitted.over (inl many)))
    | inr few ↦ few
  ]

  low_size : sum_by (size_in c) c.names ≤ limits.size
  low_size = elim (cases_lt limits.size (sum_by (size_in c) c.names)) [
    | inl large ↦ absurd (has_parts most c whole (fitted.over (inr large)))
    | inr small ↦ small
  ]

  -- distinct names of the component
  some_low : (ids : List ℕ) → AreDistinct ids → ((id : ℕ) → Contains ids id → Contains c.names id)
      → (length ids ≤ limits.count) × (total_size c.graph ids ≤ limits.size)
  some_low ids once own =
      let within = distinct_within (size_in c) ids c.names once own in
      let count = low_count in
      let size = low_size in
      (omega (arith, within.0, count), omega (arith, within.1, size))

  own_names : (lists : List (List ℕ)) → AreComponents c.graph gone lists → (ids : List ℕ) → Contains lists ids → (id : ℕ) → Contains ids id
      → Contains c.names id
  own_names lists all ids there id here = (whole.members id).0 ((all.exact id).0 (flat_has (λ (ids : List ℕ). ids) lists ids id there here)).0

  pub fewer_steps : (before after : ℕ)
      → ((lists : List (List ℕ)) → AreComponents c.graph gone lists → after ≤ before + most_steps_of lists)
      → (lists : List (List ℕ)) → AreComponents c.graph gone lists → after ≤ before + most_steps_fit_of limits c.graph lists
  fewer_steps before after few lists all =
      let most' = few lists all in
      let same : most_steps_fit_of limits c.graph lists ≡ most_steps_of lists =
      sum_by_along (λ ids. most_steps_fit limits c.graph ids) (λ ids. most_steps (length ids)) lists (λ ids there.
      (let low = some_low ids (flat_part_once (λ (ids : List ℕ). ids) lists ids all.once there) (own_names lists all ids there) in
      within_steps limits (length ids) (total_size c.graph ids) low.0 low.1)) in
      omega (arith, most', same)

  pub fewer_fit : (left : List Cluster) → AreComponents c.graph gone (map (λ d. d.names) left) → IsSplit c.graph gone left → All (IsCluster most) left
      → All (IsFitted most limits) left
  fewer_fit left all split each =
      All-weaker (Contains left) (IsFitted most limits) (λ d there.
      (let is : IsCluster most d = All-contains (IsCluster most) left d each there in
      let low = some_low d.names is.once
      (own_names (map (λ (d : Cluster). d.names) left) all d.names (Contains-map (λ (d : Cluster). d.names) left d there)) in
      let sizes : sum_by (size_in d) d.names ≡ total_size c.graph d.names =
      sum_by_along (size_in d) (size_in c) d.names (λ id here. ap (λ (r : FeeRate). r.size) (split.rates d there id here)) in
      record {
        connected = IsCluster-connected most d is;
        within = λ _. is;
        over = λ over. elim over [
          | inl many ↦ absurd (omega (arith, many, low.0))
          | inr large ↦ absurd (omega (arith, large, sizes, low.1))
        ];
      })) left (All-contains_itself left)
