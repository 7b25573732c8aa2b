-- Parents with nothing between, by places and by names.
use Rattle.std.proofs.Common.{◌≡◌, ℕ, ◌+◌, ◌<◌, Bool, true, false, cond, List, ◌∷◌, flat_map, length, drop, slice_index, Contains, ◌↔◌, inl, inr, refl, sym, ap, ◌∙◌, subst}
use Rattle.std.proofs.lemmas.Bool.{false_from_ne_true}
use Rattle.std.proofs.lemmas.List.{drop_more}
use Rattle.std.specs.List.{filter}
use Rattle.std.specs.Ordering.{nat_cmp}
use Rattle.std.specs.FinSet as set
use Rattle.lists.proofs.Distinct.{one_place}
use Rattle.lists.proofs.Entries.{Contains-filter, filter-Contains}
use Rattle.lists.specs.Distinct.{AreDistinct}
use Rattle.graphs.specs.declared.names.Flow.{Flow}
use Rattle.graphs.specs.Closures.{Closure, is_ancestor, IsCover}
use Rattle.cluster.specs.declared.order.PartEnd.{PartEnd}
use Rattle.cluster.specs.Clusters.{IsCluster}
use Rattle.cluster.specs.Covers.{has_chosen, AreToCome, ListsInOrder}
use Rattle.cluster.specs.Kept.{IsKept, cut}
use Rattle.cluster.specs.Named.{named, IsNamed}
use Rattle.cluster.proofs.Names.{Contains-stands, Stands-contains, contains-names_where, names_where-contains, named-ancestor, ancestor-stands}
use Rattle.cluster.proofs.Kept.{member_place, IsCluster-named}
use Rattle.cluster.proofs.Placed.{in_order, in_names, order_once}

true_false : true ≡ false → ⊥
true_false e = cc

module _ (names : List ℕ) (chosen : set.FinSet nat_cmp) (once : AreDistinct names) where
  -- a name is chosen where its place is
  pub chosen_at : (p id : ℕ) → p < length names → slice_index names p ≡ id → has_chosen names chosen id ≡ set.contains chosen p
  unfolding has_chosen
  chosen_at p id low here = cases (set.contains chosen p) refl
    where
      cases : (b : Bool) → set.contains chosen p ≡ b → has_chosen names chosen id ≡ b
      cases true e = ap (has_chosen names chosen) (sym here) ∙ names_where-contains names (λ q. set.contains chosen q) (length names) p low e
      cases false e = false_from_ne_true (has_chosen names chosen id) (λ holds.
          let at = contains-names_where names (λ q. set.contains chosen q) (length names) id holds in
          let same : at.0 ≡ p = one_place names at.0 p 0 once at.1 low (at.3 ∙ sym here) in
          true_false (sym at.2 ∙ ap (set.contains chosen) same ∙ e))

-- an entry that fails a test is passed over
pub passed_over : (f : ℕ → Bool) (xs : List ℕ) (i : ℕ) → i < length xs → f (slice_index xs i) ≡ false → filter f (drop (i + 1) xs) ≡ filter f (drop i xs)
passed_over f xs i low fails =
    sym (ap (filter f) (drop_more xs i 0 low) ∙ ap (λ b. cond b (slice_index xs i ∷ filter f (drop (i + 1) xs)) (filter f (drop (i + 1) xs))) fails)

module _ (n : ℕ) (names : List ℕ) (g : Closure) (kept : IsNamed n names g) where
  module _ (p q : ℕ) (low : p < length names) (below : q < length names) where
    cover_named : IsCover g p q → IsCover (named names g) (slice_index names p) (slice_index names q)
    cover_named c = record {
      ancestor = named-ancestor names g kept.once p q low below ∙ c.ancestor;
      other = λ same. c.other (one_place names p q 0 kept.once low below same);
      direct = λ m up down.
          let one = ancestor-stands names g kept.once (slice_index names p) m up in
          let two = ancestor-stands names g kept.once m (slice_index names q) down in
          let first : one.0 ≡ p = one_place names one.0 p 0 kept.once one.2 low one.4 in
          let last : two.1 ≡ q = one_place names two.1 q 0 kept.once two.3 below two.5 in
          let middle : two.0 ≡ one.1 = one_place names two.0 one.1 0 kept.once two.2 one.3 (two.4 ∙ sym one.5) in
          let above : is_ancestor g p one.1 ≡ true = subst (λ i. is_ancestor g i one.1 ≡ true) first one.6 in
          let under : is_ancestor g one.1 q ≡ true = subst (λ i. is_ancestor g i q ≡ true) middle (subst (λ i. is_ancestor g two.0 i ≡ true) last two.6) in
          elim (c.direct one.1 above under) [
            | inl same ↦ inl (sym one.5 ∙ ap (slice_index names) same)
            | inr same ↦ inr (sym one.5 ∙ ap (slice_index names) same)
          ];
    }

    named_cover : IsCover (named names g) (slice_index names p) (slice_index names q) → IsCover g p q
    named_cover c = record {
      ancestor = sym (named-ancestor names g kept.once p q low below) ∙ c.ancestor;
      other = λ same. c.other (ap (slice_index names) same);
      direct = λ m up down.
          let at : m < length names = member_place n names g kept m (kept.order.among p m up).1 in
          elim (c.direct (slice_index names m) (named-ancestor names g kept.once p m low at ∙ up) (named-ancestor names g kept.once m q at below ∙ down)) [
            | inl same ↦ inl (one_place names m p 0 kept.once at low same)
            | inr same ↦ inr (one_place names m q 0 kept.once at below same)
          ];
    }

  -- where the places of those parents are chosen, their names are listed
  pub covers_listed : (order : List ℕ) (chosen : set.FinSet nat_cmp) (q id : ℕ) → q < length names → slice_index names q ≡ id
      → ((x : ℕ) → Contains order x → Contains names x) → ((x : ℕ) → Contains names x → Contains order x)
      → ((p : ℕ) → (set.contains chosen p ≡ true) ↔ IsCover g p q)
      → ListsInOrder (λ a. IsCover (named names g) a id) order (filter (has_chosen names chosen) order)
  covers_listed order chosen q id below is fewer more covers = record {
    exact = λ a. (
      λ here.
          let found = filter-Contains (has_chosen names chosen) order a here in
          let at = Contains-stands names a (fewer a found.1) in
          let cover = cover_named at.0 q at.1 below ((covers at.0).0 (sym (chosen_at names chosen kept.once at.0 a at.1 at.2) ∙ found.0)) in
          subst (λ d. IsCover (named names g) a d) is (subst (λ x. IsCover (named names g) x (slice_index names q)) at.2 cover),
      λ cover.
          let at = ancestor-stands names g kept.once a id cover.ancestor in
          let same : at.1 ≡ q = one_place names at.1 q 0 kept.once at.3 below (at.5 ∙ sym is) in
          let placed = named_cover at.0 q at.2 below
          (subst (λ d. IsCover (named names g) (slice_index names at.0) d) (sym is) (subst (λ x. IsCover (named names g) x id) (sym at.4) cover)) in
          Contains-filter (has_chosen names chosen) order a (chosen_at names chosen kept.once at.0 a at.2 at.4 ∙ (covers at.0).1 placed)
          (more a (at.0, at.2, Rattle.std.proofs.lemmas.List.get_or_default names at.0 a 0 at.2 ∙ at.4)),
    );
    in_order = (has_chosen names chosen, refl);
  }

module _ (n : ℕ) (names : List ℕ) (g : Closure) (shown : List PartEnd) (order : List ℕ) (flows : List Flow) (kept : IsKept n names g shown order flows) where
  whole : IsCluster n (record { names = names; graph = named names g; parts = cut shown order flows })
  whole = IsCluster-named n names g kept.place (cut shown order flows) kept.ordered.picked kept.ordered.uncut

  -- the order has exactly the names
  fewer : (id : ℕ) → Contains order id → Contains names id
  fewer id here = in_names n (record { names = names; graph = named names g; parts = cut shown order flows }) whole id
      (subst (λ (xs : List ℕ). Contains xs id) (sym kept.ordered.ends.order_is) here)

  more : (id : ℕ) → Contains names id → Contains order id
  more id here = subst (λ (xs : List ℕ). Contains xs id) kept.ordered.ends.order_is
      (in_order n (record { names = names; graph = named names g; parts = cut shown order flows }) whole id here)

  pub order_to_come : (chosen : set.FinSet nat_cmp) (q : ℕ) → ((p : ℕ) → (set.contains chosen p ≡ true) ↔ IsCover g p q) → AreToCome n names order chosen
  order_to_come chosen q covers = record {
    few = kept.place.few;
    once = kept.place.once;
    apart = subst (λ (xs : List ℕ). AreDistinct xs) kept.ordered.ends.order_is
        (order_once n (record { names = names; graph = named names g; parts = cut shown order flows }) whole);
    there = fewer;
    within = low;
    stand = λ p here. more (slice_index names p) (Stands-contains names (slice_index names p) (p, low p here, refl));
  }
    where
      low : (p : ℕ) → set.contains chosen p ≡ true → p < length names
      low p here = member_place n names g kept.place p (kept.place.order.among p q ((covers p).0 here).ancestor).0

  pub order_covers : (chosen : set.FinSet nat_cmp) (q id : ℕ) → q < length names
      → slice_index names q ≡ id → ((p : ℕ) → (set.contains chosen p ≡ true) ↔ IsCover g p q)
      → ListsInOrder (λ a. IsCover (named names g) a id) (flat_map (λ part. part.ids) (cut shown order flows)) (filter (has_chosen names chosen) order)
  order_covers chosen q id low here covers =
      subst (λ (xs : List ℕ). ListsInOrder (λ a. IsCover (named names g) a id) xs (filter (has_chosen names chosen) order)) (sym kept.ordered.ends.order_is)
      (covers_listed n names g kept.place order chosen q id low here fewer more covers)
