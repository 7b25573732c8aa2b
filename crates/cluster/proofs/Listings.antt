-- The names of all places, of a place's ancestors and of its descendants.
use Rattle.std.proofs.Common.{◌≡◌, ℕ, ◌+◌, ◌<◌, ◌≤◌, true, ◌&&◌, List, length, take, slice_index, Contains, sym, ap, ◌∙◌, subst, arith, lt-ltb, ltb-true}
use Rattle.std.proofs.lemmas.Bool.{and_parts, and_from}
use Rattle.std.proofs.lemmas.List.Sums.{sum_by_more}
use Rattle.std.specs.Prelude.{sum_by, ◌↔◌}
use Rattle.std.specs.Prelude.{map as list_map}
use Rattle.std.specs.Ordering.{nat_cmp}
use Rattle.std.specs.Cmp.{nat_cmp_total}
use Rattle.std.specs.FinSet as set
use Rattle.std.specs.FinMap as map
use Rattle.lists.proofs.Distinct.{one_place}
use Rattle.fee_rate.specs.declared.limits.TheConstants.{MAX_SIZE}
use Rattle.graphs.specs.Closures.{Closure, is_member, is_ancestor, rate_of, ancestors_of, descendants_of, members_of}
use Rattle.bitset.specs.Places.{first_places, places, IsWithin}
use Rattle.bitset.specs.Sets.{contains-first_places}
use Rattle.graphs.specs.Graphs.{Lists}
use Rattle.graphs.proofs.ListLemmas.{Lists-for}
use Rattle.fee_rate.specs.declared.rates.FeeRate.{FeeRate}
use Rattle.cluster.specs.Changes.{IsChosen}
use Rattle.cluster.specs.Named.{named, IsNamed}
use Rattle.cluster.proofs.Names.{Contains-stands, Stands-contains, named-ancestor, ancestor-stands, named-rate}
use Rattle.cluster.proofs.Kept.{place_member, member_place}
use Rattle.cluster.proofs.Lists.{names_chosen}

pub contains-members_of : (g : Closure) (p : ℕ) → set.contains (members_of g) p ≡ is_member g p
unfolding members_of is_member
contains-members_of g p = set.contains-from_list nat_cmp_total (map.keys g) p ∙ sym (map.contains_key-keys g p)

pub contains-descendants_of : (g : Closure) (p d : ℕ) → set.contains (descendants_of g p) d ≡ (is_member g d && is_ancestor g p d)
contains-descendants_of g p d =
    set.contains-retain (members_of g) (λ x. is_ancestor g p x) d (λ x tied. ap (is_ancestor g p) (sym (set.nat_cmp-IsAntisymmetric d x tied)))
    ∙ ap (λ b. b && is_ancestor g p d) (contains-members_of g d)

module _ (n : ℕ) (names : List ℕ) (g : Closure) (kept : IsNamed n names g) where
  pub all_within : (chosen : set.FinSet nat_cmp) → chosen ≡ first_places (length names) → IsWithin (length names) chosen
  all_within chosen is p here = ltb-true p (length names) (sym (ap (λ s. set.contains s p) is ∙ contains-first_places (length names) p) ∙ here)

  pub above_within : (p : ℕ) (chosen : set.FinSet nat_cmp) → chosen ≡ ancestors_of g p → IsWithin (length names) chosen
  above_within p chosen is a here = member_place n names g kept a (kept.order.among a p (sym (ap (λ s. set.contains s a) is) ∙ here)).0

  pub below_within : (p : ℕ) (chosen : set.FinSet nat_cmp) → chosen ≡ descendants_of g p → IsWithin (length names) chosen
  below_within p chosen is d here = member_place n names g kept d
      (and_parts (is_member g d) (is_ancestor g p d) (sym (ap (λ s. set.contains s d) is ∙ contains-descendants_of g p d) ∙ here)).0

  pub all_listed : (chosen : set.FinSet nat_cmp) (ids : List ℕ) → chosen ≡ first_places (length names)
      → Lists (IsChosen names chosen) ids → Lists (λ id. Contains names id) ids
  all_listed chosen ids is lists = Lists-for (IsChosen names chosen) (λ id. Contains names id) ids
      (λ id at. Stands-contains names id (at.0, at.1, at.3))
      (λ id here. let at = Contains-stands names id here in
      (at.0, at.1, ap (λ s. set.contains s at.0) is ∙ contains-first_places (length names) at.0 ∙ lt-ltb at.0 (length names) at.1, at.2))
      lists

  -- a name of a place of p's ancestors is one by names
  pub chosen_above : (p : ℕ) (chosen : set.FinSet nat_cmp) → p < length names → chosen ≡ ancestors_of g p → (id : ℕ)
      → IsChosen names chosen id ↔ (is_ancestor (named names g) id (slice_index names p) ≡ true)
  chosen_above p chosen low is id = (
    λ at. subst (λ x. is_ancestor (named names g) x (slice_index names p) ≡ true) at.3
        (named-ancestor names g kept.once at.0 p at.1 low ∙ sym (ap (λ s. set.contains s at.0) is) ∙ at.2),
    λ up.
        let at = ancestor-stands names g kept.once id (slice_index names p) up in
        let same : at.1 ≡ p = one_place names at.1 p 0 kept.once at.3 low at.5 in
        (at.0, at.2, ap (λ s. set.contains s at.0) is ∙ subst (λ q. is_ancestor g at.0 q ≡ true) same at.6, at.4),
  )

  pub above_listed : (p : ℕ) (chosen : set.FinSet nat_cmp) (ids : List ℕ) → p < length names → chosen ≡ ancestors_of g p
      → Lists (IsChosen names chosen) ids → Lists (λ id. is_ancestor (named names g) id (slice_index names p) ≡ true) ids
  above_listed p chosen ids low is lists = Lists-for (IsChosen names chosen) (λ id. is_ancestor (named names g) id (slice_index names p) ≡ true) ids
      (λ id at. (chosen_above p chosen low is id).0 at) (λ id up. (chosen_above p chosen low is id).1 up) lists

  -- the names of the places of p's ancestors, as they come
  pub above_named : (p : ℕ) (chosen : set.FinSet nat_cmp) → p < length names → chosen ≡ ancestors_of g p → (a : ℕ)
      → Contains (list_map (slice_index names) (places n chosen)) a ↔ (is_ancestor (named names g) a (slice_index names p) ≡ true)
  above_named p chosen low is a =
      let bound : IsWithin n chosen = λ q here. let below : q < length names = above_within p chosen is q here in omega (arith, below, kept.few) in
      let both = names_chosen n names chosen (above_within p chosen is) bound a in
      (λ here. (chosen_above p chosen low is a).0 (both.0 here), λ up. both.1 ((chosen_above p chosen low is a).1 up))

  -- likewise of p's descendants
  pub chosen_below : (p : ℕ) (chosen : set.FinSet nat_cmp) → p < length names → chosen ≡ descendants_of g p → (id : ℕ)
      → IsChosen names chosen id ↔ (is_ancestor (named names g) (slice_index names p) id ≡ true)
  chosen_below p chosen low is id = (
    λ at. subst (λ x. is_ancestor (named names g) (slice_index names p) x ≡ true) at.3
        (named-ancestor names g kept.once p at.0 low at.1
        ∙ (and_parts (is_member g at.0) (is_ancestor g p at.0) (sym (ap (λ s. set.contains s at.0) is ∙ contains-descendants_of g p at.0) ∙ at.2)).1),
    λ down.
        let at = ancestor-stands names g kept.once (slice_index names p) id down in
        let same : at.0 ≡ p = one_place names at.0 p 0 kept.once at.2 low at.4 in
        let above : is_ancestor g p at.1 ≡ true = subst (λ q. is_ancestor g q at.1 ≡ true) same at.6 in (
          at.1,
          at.3,
          ap (λ s. set.contains s at.1) is ∙ contains-descendants_of g p at.1
              ∙ and_from (is_member g at.1) (is_ancestor g p at.1) (place_member n names g kept at.1 at.3) above,
          at.5,
        ),
  )

  pub below_listed : (p : ℕ) (chosen : set.FinSet nat_cmp) (ids : List ℕ) → p < length names → chosen ≡ descendants_of g p
      → Lists (IsChosen names chosen) ids → Lists (λ id. is_ancestor (named names g) (slice_index names p) id ≡ true) ids
  below_listed p chosen ids low is lists = Lists-for (IsChosen names chosen) (λ id. is_ancestor (named names g) (slice_index names p) id ≡ true) ids
      (λ id at. (chosen_below p chosen low is id).0 at) (λ id down. (chosen_below p chosen low is id).1 down) lists

  -- the sizes so far with that of the next place
  pub sizes_more : (p total size : ℕ) → p < length names → size ≡ (rate_of g p).size → total ≡ sum_by (λ id. (rate_of (named names g) id).size) (take p names)
      → total + size ≡ sum_by (λ id. (rate_of (named names g) id).size) (take (p + 1) names)
  sizes_more p total size low is so =
      let here : (rate_of (named names g) (slice_index names p)).size ≡ (rate_of g p).size =
      ap (λ (rate : FeeRate). rate.size) (named-rate names g kept.once p low) in
      let more : sum_by (λ id. (rate_of (named names g) id).size) (take (p + 1) names) ≡ sum_by (λ id. (rate_of (named names g) id).size)
      (take p names) + (rate_of (named names g) (slice_index names p)).size = sum_by_more (λ id. (rate_of (named names g) id).size) names p 0 low in
      omega arith

  pub size_small : (p size : ℕ) → p < length names → size ≡ (rate_of g p).size → size ≤ MAX_SIZE
  size_small p size low is = subst (λ s. s ≤ MAX_SIZE) (sym is) (kept.rates p low).size
