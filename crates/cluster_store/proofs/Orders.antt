-- Parts of clusters that stay keep their order.
use Rattle.std.proofs.Common.{◌≡◌, ℕ, ◌<◌, List, [], ◌∷◌, ◌++◌, length, Option, Some, None, Contains, inl, inr, refl, sym, ap, ◌∙◌, subst, arith}
use Rattle.std.proofs.lemmas.List.Elements.{Contains-append_left, Contains-append_right}
use Rattle.std.specs.declared.cmp.Ordering.TheVariants.{Less}
use Rattle.std.specs.List.{slice_index_or}
use Rattle.std.specs.FinMap as finmap
use Rattle.lists.proofs.Entries.{Contains-head, Contains-later, Contains-cases, Contains-splits, none_in_empty}
use Rattle.graphs.specs.Certificates.{Part}
use Rattle.graphs.specs.Merges.{Precedes}
use Rattle.chunk_index.specs.declared.key.Key.{Key}
use Rattle.chunk_index.specs.KeyOrder.{key_cmp}
use Rattle.chunk_index.specs.Keys.{IsInOrder}
use Rattle.cluster.specs.Clusters.{Cluster}
use Rattle.cluster_store.specs.Stores.{Stored, Numbered, Store, no_part, parts_in, key_at, IsOrdered}
use Rattle.cluster_store.specs.Laws.{Stays, OrdersAreKept}
use Rattle.cluster_store.proofs.Unique.{both_before, before_itself, behind_first, rest_order, one_order}

module _ {A : Type 0} (key : A → Key) where
  -- what stands before another in a sorted list has the lower key, and the other way round
  pub precedes_less : (front rest : List A) (x y : A) → IsInOrder key (front ++ y ∷ rest) → Contains front x → key_cmp (key x) (key y) ≡ Less
  precedes_less [] rest x y order here = absurd (none_in_empty x here)
  precedes_less (z ∷ front) rest x y order here = elim (Contains-cases z x front here) [
    | inl same ↦
        subst (λ (w : A). key_cmp (key w) (key y) ≡ Less) same
        (behind_first key z y (front ++ y ∷ rest) order (Contains-append_right front (y ∷ rest) y (Contains-head y rest)))
    | inr later ↦ precedes_less front rest x y (rest_order key z (front ++ y ∷ rest) order) later
  ]

  pub less_precedes : (xs : List A) (x y : A) → IsInOrder key xs → Contains xs x → Contains xs y → key_cmp (key x) (key y) ≡ Less → Precedes xs x y
  less_precedes [] x y order x_in y_in less = absurd (none_in_empty x x_in)
  less_precedes (z ∷ xs) x y order x_in y_in less = elim (Contains-cases z y xs y_in) [
    | inl first ↦ elim (Contains-cases z x xs x_in) [
      | inl same ↦ absurd (before_itself key x (subst (λ (w : A). key_cmp (key x) (key w) ≡ Less) (sym first ∙ same) less))
      | inr later ↦ absurd (both_before key x y less (subst (λ (w : A). key_cmp (key w) (key x) ≡ Less) first (behind_first key z x xs order later)))
    ]
    | inr y_later ↦ elim (Contains-cases z x xs x_in) [
      | inl same ↦
          let cut = Contains-splits xs y y_later in
          (z ∷ cut.0, cut.1, ap (λ (ys : List A). z ∷ ys) cut.2, subst (Contains (z ∷ cut.0)) same (Contains-head z cut.0))
      | inr later ↦
          let rest = less_precedes xs x y (rest_order key z xs order) later y_later less in
          (z ∷ rest.0, rest.1, ap (λ (ys : List A). z ∷ ys) rest.2, Contains-later z x rest.0 rest.3)
    ]
  ]

-- a cluster that stays has the same parts under the same keys
same_stored : (old new : Numbered) (n : ℕ) → Stays old new n → (o : Option Stored) → finmap.get old n ≡ o → (position : ℕ) → position < length (parts_in o)
    → (t : Stored) × (finmap.get new n ≡ Some t) × (parts_in (finmap.get new n) ≡ parts_in (finmap.get old n))
same_stored old new n stays None is position low = absurd (omega (arith, low))
same_stored old new n stays (Some s) is position low =
    let now = stays s is in
    (now.0, now.1, ap parts_in now.1 ∙ ap (λ (c : Cluster). c.parts) now.2 ∙ sym (ap parts_in is))

key_by : List Part → ℕ × ℕ → Key
key_by parts place = record {
  rate = record { fee = (slice_index_or parts place.1 no_part).rate.fee; size = (slice_index_or parts place.1 no_part).rate.size };
  serial = place.0;
  position = place.1;
}

module _ (old new : Store) (first : IsOrdered old.clusters old.order)
    (second : IsOrdered new.clusters new.order) (x : ℕ × ℕ) (stays : Stays old.clusters new.clusters x.0)
    (here : Contains old.order x) where
  same_parts : parts_in (finmap.get new.clusters x.0) ≡ parts_in (finmap.get old.clusters x.0)
  same_parts = (same_stored old.clusters new.clusters x.0 stays (finmap.get old.clusters x.0) refl x.1 ((first.exact x).0 here)).2

  pub still_there : Contains new.order x
  still_there = (second.exact x).1 (subst (λ (ps : List Part). x.1 < length ps) (sym same_parts) ((first.exact x).0 here))

  pub still_keyed : key_at new.clusters x ≡ key_at old.clusters x
  unfolding key_by
  still_keyed = ap (λ (ps : List Part). key_by ps x) same_parts

orders_kept : (old new : Store) → IsOrdered old.clusters old.order → IsOrdered new.clusters new.order → (x y : ℕ × ℕ) → Stays old.clusters new.clusters x.0
    → Stays old.clusters new.clusters y.0 → Precedes old.order x y → Precedes new.order x y
orders_kept old new first second x y x_stays y_stays before =
    let whole = before.2 in
    let x_in : Contains old.order x = subst (λ (ps : List (ℕ × ℕ)). Contains ps x) (sym whole) (Contains-append_left before.0 (y ∷ before.1) x before.3) in
    let y_in : Contains old.order y =
    subst (λ (ps : List (ℕ × ℕ)). Contains ps y) (sym whole) (Contains-append_right before.0 (y ∷ before.1) y (Contains-head y before.1)) in
    let less = precedes_less (key_at old.clusters) before.0 before.1 x y (subst (IsInOrder (key_at old.clusters)) whole first.sorted) before.3 in
    less_precedes (key_at new.clusters) new.order x y second.sorted
    (still_there old new first second x x_stays x_in) (still_there old new first second y y_stays y_in)
    (ap (λ (k : Key). key_cmp k (key_at new.clusters y)) (still_keyed old new first second x x_stays x_in)
    ∙ ap (key_cmp (key_at old.clusters x)) (still_keyed old new first second y y_stays y_in) ∙ less)

pub orders_are_kept : OrdersAreKept
orders_are_kept = record { one = one_order; kept = orders_kept }
