-- Flows that stand by child, then by parent: those that were sorted, and those that stood so already.
use Rattle.std.proofs.Common.{◌≡◌, ℕ, ◌+◌, ◌-◌, ◌<◌, ◌≤◌, List, length, map, slice_index_or, inl, inr, ◌⊎◌, sym, ◌∙◌, subst, subst₂, arith}
use Rattle.std.proofs.lemmas.List.{length-map, get_or-map}
use Rattle.std.proofs.lemmas.Bool.{cases_order}
use Rattle.std.proofs.lemmas.List.Sorted.{sorted_far, ranks_by}
use Rattle.std.specs.List.Sorted.{IsSortedByKey}
use Rattle.std.specs.Ordering.{is_lt}
use Rattle.linearize.specs.declared.draft.PlaceFlow.{PlaceFlow}
use Rattle.cluster.specs.Orders.{at_positions, AreRising, IsNoLater}
use Rattle.lists.proofs.Pairs.{pair_cmp, pair_total, no_later}

abbrev pub ends : PlaceFlow → ℕ × ℕ
ends flow = (flow.child, flow.parent)

pub rising_from_sorted : (flows : List PlaceFlow) → IsSortedByKey ends pair_cmp flows → AreRising flows
rising_from_sorted flows sorted i j d before below =
    no_later (slice_index_or flows i d).child (slice_index_or flows j d).child (slice_index_or flows i d).parent (slice_index_or flows j d).parent
    (sorted_far (λ x y. is_lt (pair_cmp (ends x) (ends y))) (ranks_by pair_total ends) flows sorted i j d (omega arith) below)

-- ---- flows that are compared one by one with the one before, in an order's positions
abbrev pub no_flow : PlaceFlow
no_flow = record { child = 0; parent = 0; amount = 0 }

-- so many of them rise
abbrev pub RiseTo : List ℕ → List PlaceFlow → ℕ → Type 0
RiseTo positions own n =
    (i j : ℕ) → i < j → j < n
    → IsNoLater (at_positions positions (slice_index_or own i no_flow)) (at_positions positions (slice_index_or own j no_flow))

no_later_far : (a b c : PlaceFlow) → IsNoLater a b → IsNoLater b c → IsNoLater a c
no_later_far a b c (inl x) (inl y) = inl (omega (arith, x, y))
no_later_far a b c (inl x) (inr y) = inl (let same = y.0 in omega (arith, x, same))
no_later_far a b c (inr x) (inl y) = inl (let same = x.0 in omega (arith, y, same))
no_later_far a b c (inr x) (inr y) = inr (x.0 ∙ y.0, (let low = x.1 in let high = y.1 in omega (arith, low, high)))

pub rise_more : (positions : List ℕ) (own : List PlaceFlow) (n : ℕ) → RiseTo positions own n
    → IsNoLater (at_positions positions (slice_index_or own (n - 1) no_flow)) (at_positions positions (slice_index_or own n no_flow))
    → RiseTo positions own (n + 1)
rise_more positions own n so step i j before below = elim (cases_order j n) [
  | inl same ↦ elim (cases_order i (n - 1)) [
    | inl last ↦ subst₂ (λ (x y : ℕ). IsNoLater (at_positions positions (slice_index_or own x no_flow)) (at_positions positions (slice_index_or own y no_flow)))
        (sym last) (sym same) step
    | inr other ↦
        no_later_far (at_positions positions (slice_index_or own i no_flow)) (at_positions positions (slice_index_or own (n - 1) no_flow))
        (at_positions positions (slice_index_or own j no_flow))
        (so i (n - 1) (less other same) (omega (arith, before, same)))
        (subst (λ (y : ℕ). IsNoLater (at_positions positions (slice_index_or own (n - 1) no_flow)) (at_positions positions (slice_index_or own y no_flow)))
        (sym same) step)
  ]
  | inr other ↦ so i j before (earlier other)
]
  where
    less : (i < n - 1) ⊎ (n - 1 < i) → j ≡ n → i < n - 1
    less (inl low) same = low
    less (inr high) same = absurd (omega (arith, high, before, same))

    earlier : (j < n) ⊎ (n < j) → j < n
    earlier (inl low) = low
    earlier (inr high) = absurd (omega (arith, high, below))

pub rise_all : (positions : List ℕ) (own : List PlaceFlow) (n : ℕ) → RiseTo positions own n → length own ≤ n
    → AreRising (map (at_positions positions) own)
rise_all positions own n so all i j d before below =
    let f = at_positions positions in
    let low : j < length own = subst (λ (m : ℕ). j < m) (length-map own f) below in
    subst₂ IsNoLater (sym (get_or-map f own i no_flow d (omega (arith, before, low)))) (sym (get_or-map f own j no_flow d low))
    (so i j before (omega (arith, low, all)))
