-- What is kept of a cluster makes it one, by names, and still does after a change of its places.
use Rattle.std.proofs.Common.{◌≡◌, ℕ, ℤ, ◌<◌, Bool, true, false, ◌&&◌, ◌||◌, List, length, slice_index, Option, Some, None, inl, inr, refl, sym, ap, ◌∙◌, subst, subst₂, lt-ltb, ltb-true, true≢false}
use Rattle.std.proofs.lemmas.Bool.{cases_eq, cases_Bool, or_cases, and_parts}
use Rattle.std.specs.FinMap as map
use Rattle.lists.proofs.Walks.{Walk-map}
use Rattle.lists.proofs.Distinct.{one_place}
use Rattle.lists.specs.Distinct.{AreDistinct}
use Rattle.fee_rate.specs.Limits.{IsFee, IsRate}
use Rattle.graphs.specs.Closures.{Node, Closure, is_member, is_ancestor, rate_of, rate_in, no_rate, IsOrder, IsClosed, AddsPair, SetsFee, IsRelated, AreLinked}
use Rattle.lists.proofs.Cases.{same_test}
use Rattle.fee_rate.specs.declared.rates.FeeRate.{FeeRate}
use Rattle.graphs.specs.Certificates.{Part}
use Rattle.cluster.specs.Changes.{IsSame}
use Rattle.cluster.specs.Clusters.{IsCluster, ArePicked, AreUncut}
use Rattle.cluster.specs.Named.{named, IsNamed}
use Rattle.cluster.proofs.Names.{Stands, Contains-stands, Stands-contains, named-member, member-stands, named-rate, named-ancestor, ancestor-stands}

-- ---- names and places

module _ (n : ℕ) (names : List ℕ) (g : Closure) (kept : IsNamed n names g) where
  pub place_member : (p : ℕ) → p < length names → is_member g p ≡ true
  place_member p low = kept.members p ∙ lt-ltb p (length names) low

  pub member_place : (p : ℕ) → is_member g p ≡ true → p < length names
  member_place p member = ltb-true p (length names) (sym (kept.members p) ∙ member)

  pub related_named : (p q : ℕ) → IsRelated g p q → IsRelated (named names g) (slice_index names p) (slice_index names q)
  related_named p q related = elim related [
    | inl up ↦ let ends = kept.order.among p q up in inl (named-ancestor names g kept.once p q (member_place p ends.0) (member_place q ends.1) ∙ up)
    | inr down ↦ let ends = kept.order.among q p down in inr (named-ancestor names g kept.once q p (member_place q ends.0) (member_place p ends.1) ∙ down)
  ]

  linked_named : (a b : ℕ) → Stands names a → Stands names b → AreLinked (named names g) a b
  linked_named a b first second =
      subst₂ (AreLinked (named names g)) first.2 second.2
      (Walk-map (slice_index names) (IsRelated g) (IsRelated (named names g)) related_named first.0 second.0 (kept.whole first.0 second.0 first.1 second.1))

  transitive_named : (a b c : ℕ) → is_ancestor (named names g) a b ≡ true → is_ancestor (named names g) b c ≡ true → is_ancestor (named names g) a c ≡ true
  transitive_named a b c up down =
      let first = ancestor-stands names g kept.once a b up in
      let second = ancestor-stands names g kept.once b c down in
      let same : first.1 ≡ second.0 = one_place names first.1 second.0 0 kept.once first.3 second.2 (first.5 ∙ sym second.4) in
      let joined : is_ancestor g first.0 second.1 ≡ true =
      kept.order.transitive first.0 second.0 second.1 (subst (λ (q : ℕ). is_ancestor g first.0 q ≡ true) same first.6) second.6 in
      subst₂ (λ x y. is_ancestor (named names g) x y ≡ true) first.4 second.5 (named-ancestor names g kept.once first.0 second.1 first.2 second.3 ∙ joined)

  antisymmetric_named : (a b : ℕ) → is_ancestor (named names g) a b ≡ true → is_ancestor (named names g) b a ≡ true → a ≡ b
  antisymmetric_named a b up down =
      let first = ancestor-stands names g kept.once a b up in
      let second = ancestor-stands names g kept.once b a down in
      let one : second.0 ≡ first.1 = one_place names second.0 first.1 0 kept.once second.2 first.3 (second.4 ∙ sym first.5) in
      let two : second.1 ≡ first.0 = one_place names second.1 first.0 0 kept.once second.3 first.2 (second.5 ∙ sym first.4) in
      let same : first.0 ≡ first.1 = kept.order.antisymmetric first.0 first.1 first.6 (subst₂ (λ p q. is_ancestor g p q ≡ true) one two second.6) in
      sym first.4 ∙ ap (slice_index names) same ∙ first.5

  reflexive_named : (a : ℕ) → is_member (named names g) a ≡ true → is_ancestor (named names g) a a ≡ true
  reflexive_named a member =
      let at = member-stands names g kept.once a member in
      subst (λ x. is_ancestor (named names g) x x ≡ true) at.2
      (named-ancestor names g kept.once at.0 at.0 at.1 at.1 ∙ kept.order.reflexive at.0 (place_member at.0 at.1))

  among_named : (a d : ℕ) → is_ancestor (named names g) a d ≡ true → (is_member (named names g) a ≡ true) × (is_member (named names g) d ≡ true)
  among_named a d up =
      let at = ancestor-stands names g kept.once a d up in (
        subst (λ x. is_member (named names g) x ≡ true) at.4 (named-member names g kept.once at.0 at.2),
        subst (λ x. is_member (named names g) x ≡ true) at.5 (named-member names g kept.once at.1 at.3),
      )

  pub order_named : IsOrder (is_member (named names g)) (is_ancestor (named names g))
  order_named = record { among = among_named; reflexive = reflexive_named; transitive = transitive_named; antisymmetric = antisymmetric_named }

  pub stands_member : (id : ℕ) → Stands names id → is_member (named names g) id ≡ true
  stands_member id at = subst (λ x. is_member (named names g) x ≡ true) at.2 (named-member names g kept.once at.0 at.1)

  pub IsCluster-named : (parts : List Part) → ArePicked (named names g) parts → AreUncut (named names g) parts
      → IsCluster n (record { names = names; graph = named names g; parts = parts })
  IsCluster-named parts picked uncut = record {
    some = kept.some;
    few = kept.few;
    once = kept.once;
    members = λ id. (λ member. Stands-contains names id (member-stands names g kept.once id member), λ here. stands_member id (Contains-stands names id here));
    order = order_named;
    whole = λ a b first second. linked_named a b (member-stands names g kept.once a first) (member-stands names g kept.once b second);
    rates = λ id member. let at = member-stands names g kept.once id member in
        subst (λ x. IsRate (rate_of (named names g) x)) at.2
        (subst (λ (rate : FeeRate). IsRate rate) (sym (named-rate names g kept.once at.0 at.1)) (kept.rates at.0 at.1));
    picked = picked;
    uncut = uncut;
  }

-- ---- changes

-- tests that agree on the names at places, and fail elsewhere, agree
pub by_places : (names : List ℕ) (F G : ℕ → ℕ → Bool)
    → ((p q : ℕ) → p < length names → q < length names → F (slice_index names p) (slice_index names q) ≡ G (slice_index names p) (slice_index names q))
    → ((a d : ℕ) → F a d ≡ true → Stands names a × Stands names d) → ((a d : ℕ) → G a d ≡ true → Stands names a × Stands names d) → (a d : ℕ) → F a d ≡ G a d
by_places names F G agree first second a d = same_test (F a d) (G a d)
    (λ holds. let at = first a d holds in sym (at_names at.0 at.1) ∙ holds)
    (λ holds. let at = second a d holds in at_names at.0 at.1 ∙ holds)
  where
    at_names : Stands names a → Stands names d → F a d ≡ G a d
    at_names one two = subst₂ (λ x y. F x y ≡ G x y) one.2 two.2 (agree one.0 two.0 one.1 two.1)

-- a graph's names stand at places
pub ancestor_ends : (names : List ℕ) (g : Closure) → AreDistinct names → (a d : ℕ) → is_ancestor (named names g) a d ≡ true → Stands names a × Stands names d
ancestor_ends names g once a d up = let at = ancestor-stands names g once a d up in ((at.0, at.2, at.4), (at.1, at.3, at.5))

pub rate-none : (g : Closure) (id : ℕ) → is_member g id ≡ false → rate_of g id ≡ no_rate
unfolding is_member rate_of
rate-none g id absent = cases (map.get g id) absent
  where
    cases : (o : Option Node) → Rattle.std.specs.Prelude.is_some o ≡ false → rate_in o ≡ no_rate
    cases None e = refl
    cases (Some x) e = absurd (true≢false e)

module _ (names : List ℕ) (g g' : Closure) (once : AreDistinct names) where
  pub same_members : (id : ℕ) → is_member (named names g') id ≡ is_member (named names g) id
  same_members id = same_test (is_member (named names g') id) (is_member (named names g) id)
      (λ e. let at = member-stands names g' once id e in subst (λ x. is_member (named names g) x ≡ true) at.2 (named-member names g once at.0 at.1))
      (λ e. let at = member-stands names g once id e in subst (λ x. is_member (named names g') x ≡ true) at.2 (named-member names g' once at.0 at.1))

  pub same_rate : (id : ℕ) → ((p : ℕ) → p < length names → slice_index names p ≡ id → rate_of g' p ≡ rate_of g p)
      → rate_of (named names g') id ≡ rate_of (named names g) id
  same_rate id same = elim (cases_Bool (is_member (named names g) id)) [
    | inl member ↦
        let at = member-stands names g once id member in
        subst (λ x. rate_of (named names g') x ≡ rate_of (named names g) x) at.2
        (named-rate names g' once at.0 at.1 ∙ same at.0 at.1 at.2 ∙ sym (named-rate names g once at.0 at.1))
    | inr absent ↦ rate-none (named names g') id (same_members id ∙ absent) ∙ sym (rate-none (named names g) id absent)
  ]

  pub AddsPair-named : (p q : ℕ) → p < length names → q < length names → AddsPair g g' p q
      → AddsPair (named names g) (named names g') (slice_index names p) (slice_index names q)
  AddsPair-named p q low below pair = record {
    members = same_members;
    rates = λ id. same_rate id (λ i _ _. pair.rates i);
    ancestors = by_places names (is_ancestor (named names g'))
        (λ a d. is_ancestor (named names g) a d || (is_ancestor (named names g) a (slice_index names p) && is_ancestor (named names g) (slice_index names q) d))
        (λ i j one two. named-ancestor names g' once i j one two ∙ pair.ancestors i j
        ∙ sym (λ k. named-ancestor names g once i j one two k || (named-ancestor names g once i p one low k && named-ancestor names g once q j below two k)))
        (ancestor_ends names g' once)
        (λ a d holds. elim (or_cases (is_ancestor (named names g) a d)
        (is_ancestor (named names g) a (slice_index names p) && is_ancestor (named names g) (slice_index names q) d) holds) [
          | inl old ↦ ancestor_ends names g once a d old
          | inr new ↦
              let both = and_parts (is_ancestor (named names g) a (slice_index names p)) (is_ancestor (named names g) (slice_index names q) d) new in
              ((ancestor_ends names g once a (slice_index names p) both.0).0, (ancestor_ends names g once (slice_index names q) d both.1).1)
        ]);
  }

  pub SetsFee-named : (p : ℕ) (fee : ℤ) → p < length names → SetsFee g g' p fee → SetsFee (named names g) (named names g') (slice_index names p) fee
  SetsFee-named p fee low sets = record {
    members = same_members;
    rate_is = named-rate names g' once p low ∙ sets.rate_is
        ∙ ap (λ (rate : FeeRate). record { fee = fee; size = rate.size }) (sym (named-rate names g once p low));
    rates = λ id other. same_rate id (λ i _ is. sets.rates i (λ same. other (sym is ∙ ap (slice_index names) same)));
    ancestors = by_places names (is_ancestor (named names g')) (is_ancestor (named names g))
        (λ i j one two. named-ancestor names g' once i j one two ∙ sets.ancestors i j ∙ sym (named-ancestor names g once i j one two))
        (ancestor_ends names g' once) (ancestor_ends names g once);
  }

module _ (n : ℕ) (names : List ℕ) (g g' : Closure) (kept : IsNamed n names g) (closed : IsClosed n g') where
  more_related : ((a d : ℕ) → is_ancestor g a d ≡ true → is_ancestor g' a d ≡ true) → (p q : ℕ) → IsRelated g p q → IsRelated g' p q
  more_related more p q related = elim related [ inl up ↦ inl (more p q up) | inr down ↦ inr (more q p down) ]

  -- with the same members, rates in range, and at least the same ancestors
  IsNamed-more : ((p : ℕ) → is_member g' p ≡ is_member g p) → ((p : ℕ) → p < length names → IsRate (rate_of g' p))
      → ((a d : ℕ) → is_ancestor g a d ≡ true → is_ancestor g' a d ≡ true) → IsNamed n names g'
  IsNamed-more members rates more = record {
    some = kept.some;
    few = kept.few;
    once = kept.once;
    members = λ p. members p ∙ kept.members p;
    order = closed.order;
    whole = λ p q low below. Walk-map (λ p. p) (IsRelated g) (IsRelated g') (more_related more) p q (kept.whole p q low below);
    rates = rates;
  }

  pub IsNamed-pair : (p q : ℕ) → AddsPair g g' p q → IsNamed n names g'
  IsNamed-pair p q pair = IsNamed-more pair.members (λ i low. subst (λ (rate : FeeRate). IsRate rate) (sym (pair.rates i)) (kept.rates i low))
      (λ a d e. pair.ancestors a d ∙ ap (λ b. b || (is_ancestor g a p && is_ancestor g q d)) e)

  pub IsNamed-fee : (p : ℕ) (fee : ℤ) → IsFee fee → SetsFee g g' p fee → IsNamed n names g'
  IsNamed-fee p fee in_range sets = IsNamed-more sets.members rates (λ a d e. sets.ancestors a d ∙ e)
    where
      rates : (i : ℕ) → i < length names → IsRate (rate_of g' i)
      rates i low = elim (cases_eq i p) [
        | inl same ↦
            let old : IsRate (rate_of g p) = subst (λ q. IsRate (rate_of g q)) same (kept.rates i low) in
            subst (λ (q : ℕ). IsRate (rate_of g' q)) (sym same)
            (subst (λ (rate : FeeRate). IsRate rate) (sym sets.rate_is) (record { fee = in_range; some = old.some; size = old.size }))
        | inr other ↦ subst (λ (rate : FeeRate). IsRate rate) (sym (sets.rates i other)) (kept.rates i low)
      ]

-- the same graph once more, with a change
module _ (g h h' : Closure) (same : IsSame g h) where
  pub AddsPair-same : (p q : ℕ) → AddsPair h h' p q → AddsPair g h' p q
  AddsPair-same p q pair = record {
    members = λ i. pair.members i ∙ same.members i;
    rates = λ i. pair.rates i ∙ same.rates i;
    ancestors = λ a d. pair.ancestors a d ∙ (λ i. same.ancestors a d i || (same.ancestors a p i && same.ancestors q d i));
  }

  pub SetsFee-same : (p : ℕ) (fee : ℤ) → SetsFee h h' p fee → SetsFee g h' p fee
  SetsFee-same p fee sets = record {
    members = λ i. sets.members i ∙ same.members i;
    rate_is = sets.rate_is ∙ ap (λ (rate : FeeRate). record { fee = fee; size = rate.size }) (same.rates p);
    rates = λ i other. sets.rates i other ∙ same.rates i;
    ancestors = λ a d. sets.ancestors a d ∙ same.ancestors a d;
  }
