-- The loop that takes one component after another out of a cluster without a place.
use Rattle.std.proofs.Common.{◌≡◌, ◌≢◌, ℕ, ◌<◌, true, false, not, ◌&&◌, List, [], ◌∷◌, ◌++◌, length, slice_index, get_or, Contains, All, inl, inr, ◌⊎◌, ◌↔◌, refl, sym, ap, ap₂, ◌∙◌, subst, subst₂, arith, lt-ltb, ltb-true, true≢false}
use Rattle.std.proofs.Common.{Option, Some, None, MatchOption}
use Rattle.std.proofs.lemmas.Bool.{cases_eq, cases_Bool, and_parts, and_from, false_from_ne_true}
use Rattle.std.proofs.lemmas.List.Elements.{Contains-append_left, Contains-push, Contains-push_cases, All-push, Contains-get_or}
use Rattle.std.proofs.lemmas.List.Quantifiers.{all_pairs_push}
use Rattle.std.specs.List.{AllPairs}
use Rattle.std.specs.Ordering.{nat_cmp}
use Rattle.std.specs.FinSet as set
use Rattle.lists.proofs.Distinct.{one_place}
use Rattle.graphs.specs.Closures.{Closure, is_ancestor, rate_of, HoldsMembers, IsNear, IsRelated}
use Rattle.lists.proofs.Walks.{Walk-push, Walk-trans, Walk-back}
use Rattle.lists.specs.Walks.{Walk, IsWalk}
use Rattle.lists.proofs.Keys.{set_smaller}
use Rattle.bitset.specs.Places.{first_places, IsLeast}
use Rattle.bitset.specs.Sets.{contains-first_places, contains-difference, contains-empty}
use Rattle.cluster.specs.Clusters.{Cluster, IsCluster, AreApart}
use Rattle.cluster.specs.Changes.{IsChosen, IsPartOf, IsAncestorIn, IsSplit}
use Rattle.cluster.specs.Named.{named, IsNamed}
use Rattle.cluster.proofs.Names.{named-ancestor, ancestor-stands}
use Rattle.cluster.proofs.Kept.{place_member}

-- ---- walks between near places

near_back : (g : Closure) (s : set.FinSet nat_cmp) (a b : ℕ) → IsNear g s a b → IsNear g s b a
near_back g s a b near =
    record { from_within = near.to_within; to_within = near.from_within; related = elim near.related [ inl up ↦ inr up | inr down ↦ inl down ] }

-- a walk from a place of a component stays in it
kept_inside : (g : Closure) (s t : set.FinSet nat_cmp) (first : ℕ) → ((p : ℕ) → (set.contains t p ≡ true) ↔ Walk (IsNear g s) first p)
    → (a b : ℕ) (vs : List ℕ) → set.contains t a ≡ true → IsWalk (IsNear g s) a vs b → Walk (IsNear g t) a b
kept_inside g s t first is a b [] here same = ([], same)
kept_inside g s t first is a b (v ∷ vs) here walk =
    let there : set.contains t v ≡ true = (is v).1 (Walk-push (IsNear g s) first a v ((is a).0 here) walk.0) in
    let rest : Walk (IsNear g t) v b = kept_inside g s t first is v b vs there walk.1 in
    (v ∷ rest.0, (record { from_within = here; to_within = there; related = walk.0.related }, rest.1))

-- a component is one within itself
pub component_whole : (g : Closure) (s t : set.FinSet nat_cmp) (first : ℕ) → ((p : ℕ) → (set.contains t p ≡ true) ↔ Walk (IsNear g s) first p)
    → (p q : ℕ) → set.contains t p ≡ true → set.contains t q ≡ true → Walk (IsNear g t) p q
component_whole g s t first is p q here there =
    let walk = Walk-trans (IsNear g s) p first q (Walk-back (IsNear g s) (near_back g s) first p ((is p).0 here)) ((is q).0 there) in
    kept_inside g s t first is p q walk.0 here walk.1

-- a component lies within what it is one of
pub component_inside : (g : Closure) (s t : set.FinSet nat_cmp) (first : ℕ) → set.contains s first ≡ true
    → ((p : ℕ) → (set.contains t p ≡ true) ↔ Walk (IsNear g s) first p) → (p : ℕ) → set.contains t p ≡ true → set.contains s p ≡ true
component_inside g s t first there is p here = let walk = (is p).0 here in last first p walk.0 there walk.1
  where
    last : (a b : ℕ) (vs : List ℕ) → set.contains s a ≡ true → IsWalk (IsNear g s) a vs b → set.contains s b ≡ true
    last a b [] held same = subst (λ x. set.contains s x ≡ true) same held
    last a b (v ∷ vs) held walk = last v b vs walk.0.to_within walk.1

-- ---- the loop

-- a place that was put into a part
pub record IsDoneAt (names gone : List ℕ) (rest : set.FinSet nat_cmp) (p : ℕ) : Type 0 where
  pub low : p < length names
  pub other : Contains gone (slice_index names p) → ⊥
  pub taken : set.contains rest p ≡ false

-- the places of a and d, both done, of which the one is an ancestor of the other
pub record AreDoneAt (names : List ℕ) (g : Closure) (gone : List ℕ) (rest : set.FinSet nat_cmp) (a d : ℕ) : Type 0 where
  pub first : ℕ
  pub second : ℕ
  pub first_done : IsDoneAt names gone rest first
  pub second_done : IsDoneAt names gone rest second
  pub first_is : slice_index names first ≡ a
  pub second_is : slice_index names second ≡ d
  pub above : is_ancestor g first second ≡ true

-- what is left to do, and the parts so far
pub record Splitting (n : ℕ) (names : List ℕ) (g : Closure) (gone : List ℕ) (rest : set.FinSet nat_cmp) (parts : List Cluster) : Type 0 where
  pub among : (p : ℕ) → set.contains rest p ≡ true → (p < length names) × (Contains gone (slice_index names p) → ⊥)
  pub alone : (p q : ℕ) → p < length names → (Contains gone (slice_index names p) → ⊥)
      → set.contains rest q ≡ true → IsRelated g p q → set.contains rest p ≡ true
  pub there : (a d : ℕ) → IsAncestorIn parts a d → AreDoneAt names g gone rest a d
  pub back : (a d : ℕ) → AreDoneAt names g gone rest a d → IsAncestorIn parts a d
  pub rates : (c : Cluster) → Contains parts c → (id : ℕ) → Contains c.names id → rate_of c.graph id ≡ rate_of (named names g) id
  pub apart : AllPairs AreApart parts
  pub whole : All (IsCluster n) parts
  pub filled : (c : Cluster) → Contains parts c → c.names ≢ []

module _ (n : ℕ) (names : List ℕ) (g : Closure) (kept : IsNamed n names g) (gone : List ℕ) where
  abbrev IsDone : set.FinSet nat_cmp → ℕ → Type 0
  IsDone rest p = IsDoneAt names gone rest p

  abbrev AreDone : set.FinSet nat_cmp → ℕ → ℕ → Type 0
  AreDone rest a d = AreDoneAt names g gone rest a d

  module _ (whole rest : set.FinSet nat_cmp) (all : whole ≡ first_places (length names))
      (less : (p : ℕ) → set.contains rest p ≡ true → set.contains whole p ≡ true)
      (left : (p : ℕ) → p < length names → set.contains whole p ≡ true → (set.contains rest p ≡ true) ↔ (Contains gone (slice_index names p) → ⊥)) where
    in_whole : (p : ℕ) → p < length names → set.contains whole p ≡ true
    in_whole p low = ap (λ s. set.contains s p) all ∙ contains-first_places (length names) p ∙ lt-ltb p (length names) low

    of_whole : (p : ℕ) → set.contains whole p ≡ true → p < length names
    of_whole p here = ltb-true p (length names) (sym (ap (λ s. set.contains s p) all ∙ contains-first_places (length names) p) ∙ here)

    stays : (p : ℕ) → p < length names → (Contains gone (slice_index names p) → ⊥) → set.contains rest p ≡ true
    stays p low other = (left p low (in_whole p low)).1 other

    pub Splitting-start : (parts : List Cluster) → parts ≡ [] → Splitting n names g gone rest parts
    Splitting-start parts none = record {
      among = λ p here. (let low = of_whole p (less p here) in (low, (left p low (less p here)).0 here));
      alone = λ p q inside other here related. stays p inside other;
      there = λ a d up. absurd (no_part up.0 up.1);
      back = λ a d done. absurd (true≢false (sym (stays done.first done.first_done.low done.first_done.other) ∙ done.first_done.taken));
      rates = λ c here id held. absurd (no_part c here);
      apart = subst (AllPairs AreApart) (sym none) (λ i j d before below. absurd (omega arith));
      whole = subst (All (IsCluster n)) (sym none) (λ k d below. absurd (omega arith));
      filled = λ c here empty. no_part c here;
    }
      where
        no_part : (c : Cluster) → Contains parts c → ⊥
        no_part c here = let h : Contains [] c = subst (λ xs. Contains xs c) none here in omega (arith, h.1)

  module _ (rest next chosen : set.FinSet nat_cmp) (parts : List Cluster) (part : Cluster)
      (first : ℕ) (so : Splitting n names g gone rest parts) (least : IsLeast rest first)
      (is : (p : ℕ) → (set.contains chosen p ≡ true) ↔ Walk (IsNear g rest) first p) (less : next ≡ set.difference rest chosen)
      (made : IsPartOf names (named names g) chosen part.names part.graph) (fine : IsCluster n part) where
    chosen_rest : (p : ℕ) → set.contains chosen p ≡ true → set.contains rest p ≡ true
    chosen_rest p here = component_inside g rest chosen first least.member is p here

    next_tells : (p : ℕ) → set.contains next p ≡ (set.contains rest p && not (set.contains chosen p))
    next_tells p = ap (λ s. set.contains s p) less ∙ contains-difference rest chosen p

    next_rest : (p : ℕ) → set.contains next p ≡ true → (set.contains rest p ≡ true) × (set.contains chosen p ≡ false)
    next_rest p here =
        let both = and_parts (set.contains rest p) (not (set.contains chosen p)) (sym (next_tells p) ∙ here) in
        (both.0, Rattle.std.proofs.lemmas.Bool.not-true (set.contains chosen p) both.1)

    rest_next : (p : ℕ) → set.contains rest p ≡ true → set.contains chosen p ≡ false → set.contains next p ≡ true
    rest_next p here other = next_tells p ∙ and_from (set.contains rest p) (not (set.contains chosen p)) here (ap not other)

    -- what is related to a chosen place is chosen
    spreads : (p q : ℕ) → set.contains chosen p ≡ true → set.contains rest q ≡ true → IsRelated g p q → set.contains chosen q ≡ true
    spreads p q here there related =
        (is q).1 (Walk-push (IsNear g rest) first p q ((is p).0 here) (record { from_within = chosen_rest p here; to_within = there; related = related }))

    turned : (p q : ℕ) → IsRelated g p q → IsRelated g q p
    turned p q related = elim related [ inl up ↦ inr up | inr down ↦ inl down ]

    alone_next : (p q : ℕ) → p < length names → (Contains gone (slice_index names p) → ⊥)
        → set.contains next q ≡ true → IsRelated g p q → set.contains next p ≡ true
    alone_next p q inside other here related =
        let old = next_rest q here in
        let there : set.contains rest p ≡ true = so.alone p q inside other old.0 related in
        rest_next p there (false_from_ne_true (set.contains chosen p) (λ held. true≢false (sym (spreads p q held old.0 related) ∙ old.1)))

    -- done before, or chosen now
    done_before : (p : ℕ) → IsDone rest p → IsDone next p
    done_before p done = record {
      low = done.low;
      other = done.other;
      taken = false_from_ne_true (set.contains next p) (λ here. true≢false (sym (next_rest p here).0 ∙ done.taken));
    }

    done_chosen : (p : ℕ) → set.contains chosen p ≡ true → IsDone next p
    done_chosen p held =
        let at = so.among p (chosen_rest p held) in
        record { low = at.0; other = at.1; taken = false_from_ne_true (set.contains next p) (λ here. true≢false (sym held ∙ (next_rest p here).1)) }

    done_cases : (p : ℕ) → IsDone next p → IsDone rest p ⊎ (set.contains chosen p ≡ true)
    done_cases p done = elim (cases_Bool (set.contains chosen p)) [
      | inl held ↦ inr held
      | inr other ↦ inl
          (record {
            low = done.low;
            other = done.other;
            taken = false_from_ne_true (set.contains rest p) (λ here. true≢false (sym (rest_next p here other) ∙ done.taken));
          })
    ]

    chosen_at : (id : ℕ) → Contains part.names id → IsChosen names chosen id
    chosen_at id here = (made.names_are id).0 here

    part_done : (a d : ℕ) → is_ancestor part.graph a d ≡ true → AreDone next a d
    part_done a d up =
        let all = (made.ancestors a d).0 up in
        let p = all.0 in let q = all.1 in
        record {
          first = p.0;
          second = q.0;
          first_done = done_chosen p.0 p.2;
          second_done = done_chosen q.0 q.2;
          first_is = p.3;
          second_is = q.3;
          above = sym (named-ancestor names g kept.once p.0 q.0 p.1 q.1) ∙ subst₂ (λ x y. is_ancestor (named names g) x y ≡ true) (sym p.3) (sym q.3) all.2;
        }

    old_done : (a d : ℕ) → AreDone rest a d → AreDone next a d
    old_done a d done = record {
      first = done.first;
      second = done.second;
      first_done = done_before done.first done.first_done;
      second_done = done_before done.second done.second_done;
      first_is = done.first_is;
      second_is = done.second_is;
      above = done.above;
    }

    there_next : (a d : ℕ) → IsAncestorIn (parts ++ part ∷ []) a d → AreDone next a d
    there_next a d up = elim (Contains-push_cases parts part up.0 up.1) [
      | inl old ↦ old_done a d (so.there a d (up.0, old, up.2))
      | inr same ↦ part_done a d (subst (λ (c : Cluster). is_ancestor c.graph a d ≡ true) (sym same) up.2)
    ]

    in_part : (a d : ℕ) (done : AreDone next a d) → set.contains chosen done.first ≡ true
        → set.contains chosen done.second ≡ true → IsAncestorIn (parts ++ part ∷ []) a d
    in_part a d done one two =
        let low = done.first_done.low in let below = done.second_done.low in
        let up : is_ancestor (named names g) a d ≡ true = subst₂ (λ x y. is_ancestor (named names g) x y ≡ true) done.first_is done.second_is
        (named-ancestor names g kept.once done.first done.second low below ∙ done.above) in
        (part, Contains-push parts part, (made.ancestors a d).1 ((done.first, low, one, done.first_is), (done.second, below, two, done.second_is), up))

    before_both : (a d : ℕ) (done : AreDone next a d) → IsDone rest done.first → IsDone rest done.second → IsAncestorIn (parts ++ part ∷ []) a d
    before_both a d done one two =
        let old = so.back a d
        (record {
          first = done.first;
          second = done.second;
          first_done = one;
          second_done = two;
          first_is = done.first_is;
          second_is = done.second_is;
          above = done.above;
        }) in
        (old.0, Contains-append_left parts (part ∷ []) old.0 old.1, old.2)

    -- a place done before is not related to one of the rest
    never_near : {P : Type 0} → (p q : ℕ) → IsDone rest p → set.contains chosen q ≡ true → IsRelated g p q → P
    never_near p q done held related = absurd (true≢false (sym (so.alone p q done.low done.other (chosen_rest q held) related) ∙ done.taken))

    back_next : (a d : ℕ) → AreDone next a d → IsAncestorIn (parts ++ part ∷ []) a d
    back_next a d done = elim (done_cases done.first done.first_done) [
      | inl one ↦ elim (done_cases done.second done.second_done) [
        | inl two ↦ before_both a d done one two
        | inr two ↦ never_near {P = IsAncestorIn (parts ++ part ∷ []) a d} done.first done.second one two (inl done.above)
      ]
      | inr one ↦ elim (done_cases done.second done.second_done) [
        | inl two ↦ never_near {P = IsAncestorIn (parts ++ part ∷ []) a d} done.second done.first two one (inr done.above)
        | inr two ↦ in_part a d done one two
      ]
    ]

    -- the names of a part so far are of places that are done
    old_name : (c : Cluster) → Contains parts c → IsCluster n c → (id : ℕ) → Contains c.names id → (p : ℕ) × IsDone rest p × (slice_index names p ≡ id)
    old_name c here cluster id held =
        let done = so.there id id (c, here, cluster.order.reflexive id ((cluster.members id).1 held)) in (done.first, done.first_done, done.first_is)

    apart_from : (c : Cluster) → Contains parts c → IsCluster n c → AreApart c part
    apart_from c here cluster id held other =
        let old = old_name c here cluster id held in
        let new = chosen_at id other in
        let same : old.0 ≡ new.0 = one_place names old.0 new.0 0 kept.once old.1.low new.1 (old.2 ∙ sym new.3) in
        true≢false (sym (chosen_rest new.0 new.2) ∙ ap (set.contains rest) (sym same) ∙ old.1.taken)

    part_filled : part.names ≢ []
    part_filled empty =
        let low : first < length names = (so.among first least.member).0 in
        let held : Contains part.names (slice_index names first) = (made.names_are (slice_index names first)).1 (first, low, (is first).1 ([], refl), refl) in
        let none : Contains [] (slice_index names first) = subst (λ (xs : List ℕ). Contains xs (slice_index names first)) empty held in omega (arith, none.1)

    pub Splitting-more : Splitting n names g gone next (parts ++ part ∷ [])
    Splitting-more = record {
      among = λ p here. so.among p (next_rest p here).0;
      alone = alone_next;
      there = there_next;
      back = back_next;
      rates = λ c here id held. elim (Contains-push_cases parts part c here) [
        | inl old ↦ so.rates c old id held
        | inr same ↦ subst (λ (x : Cluster). Contains x.names id → rate_of x.graph id ≡ rate_of (named names g) id) same (made.rates id) held
      ];
      apart = all_pairs_push AreApart parts part so.apart (λ k d below. apart_from (get_or parts k d) (Contains-get_or parts k d below) (so.whole k d below));
      whole = All-push (IsCluster n) parts part so.whole fine;
      filled = λ c here. elim (Contains-push_cases parts part c here) [
        | inl old ↦ so.filled c old
        | inr same ↦ subst (λ (x : Cluster). x.names ≢ []) same part_filled
      ];
    }

    -- fewer places are left
    pub fewer : set.len next < set.len rest
    fewer =
        let held : set.contains chosen first ≡ true = (is first).1 ([], refl) in
        let out : set.contains next first ≡ false = next_tells first ∙ ap₂ (λ x y. x && not y) least.member held in
        set_smaller next rest first (λ p here. (next_rest p here).0) least.member out

  module _ (rest : set.FinSet nat_cmp) (parts : List Cluster) (so : Splitting n names g gone rest parts) where
    pub holds_members : HoldsMembers g rest
    holds_members p here = place_member n names g kept p (so.among p here).0

    pub Splitting-all : rest ≡ set.empty → IsSplit (named names g) gone parts
    Splitting-all none = record {
      ancestors = λ a d. (
        λ up.
            let done = so.there a d up in (
              λ held. done.first_done.other (subst (Contains gone) (sym done.first_is) held),
              λ held. done.second_done.other (subst (Contains gone) (sym done.second_is) held),
              subst₂ (λ x y. is_ancestor (named names g) x y ≡ true) done.first_is done.second_is
                  (named-ancestor names g kept.once done.first done.second done.first_done.low done.second_done.low ∙ done.above),
            ),
        λ all.
            let at = ancestor-stands names g kept.once a d all.2 in
            so.back a d (record {
              first = at.0;
              second = at.1;
              first_done = record {
                low = at.2;
                other = λ held. all.0 (subst (Contains gone) at.4 held);
                taken = ap (λ s. set.contains s at.0) none ∙ contains-empty at.0;
              };
              second_done = record {
                low = at.3;
                other = λ held. all.1 (subst (Contains gone) at.5 held);
                taken = ap (λ s. set.contains s at.1) none ∙ contains-empty at.1;
              };
              first_is = at.4;
              second_is = at.5;
              above = at.6;
            }),
      );
      rates = so.rates;
      apart = so.apart;
      filled = so.filled;
    }

-- a search for the least place found none
pub none_left : (r : Option ℕ) (s : set.FinSet nat_cmp) → MatchOption r (s ≡ set.empty) (IsLeast s) → ((p : ℕ) → r ≡ Some p → ⊥) → s ≡ set.empty
none_left None s none e = none
none_left (Some p) s least e = absurd (e p refl)
