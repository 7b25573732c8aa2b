-- The names that a change leaves as they are.
use Rattle.std.proofs.Common.{◌≡◌, ℕ, ℤ, ◌<◌, Bool, true, false, ◌&&◌, ◌||◌, List, length, slice_index, Contains, inl, inr, refl, sym, ap, ap₂, ◌∙◌, subst, true≢false}
use Rattle.std.proofs.lemmas.Bool.{cases_Bool, and_parts, or_cases, false_from_ne_true}
use Rattle.std.specs.Ordering.{nat_cmp}
use Rattle.std.specs.FinSet as set
use Rattle.lists.proofs.Distinct.{one_place}
use Rattle.graphs.specs.Closures.{Closure, is_member, is_ancestor, ancestors_of, descendants_of, AddsPair, SetsFee, IsOrder}
use Rattle.cluster.specs.Changes.{Joins, AreAcross, IsPartOf, is_above}
use Rattle.cluster.specs.Guesses.{Stay}
use Rattle.cluster.specs.Named.{named, IsNamed}
use Rattle.cluster.proofs.At.{IsAt}
use Rattle.cluster.proofs.Kept.{place_member}
use Rattle.cluster.proofs.Listings.{contains-descendants_of}
use Rattle.cluster.proofs.Names.{ancestor-stands}

-- another fee of a name that isn't there
pub fee_stays : (old new : Closure) (id : ℕ) (fee : ℤ) (ids : List ℕ) → SetsFee old new id fee → (Contains ids id → ⊥) → Stay old new ids
fee_stays old new id fee ids sets out = record {
  rates = λ x here. sets.rates x (λ same. out (subst (Contains ids) same here));
  ancestors = λ a d _ _. sets.ancestors a d;
}

none_more : (b c : Bool) → (c ≡ true → ⊥) → b || c ≡ b
none_more true c none = refl
none_more false true none = absurd (none refl)
none_more false false none = refl

-- another pair, with none of the names above it or none below it
pub pair_stays : (old new : Closure) (parent child : ℕ) (ids : List ℕ) → AddsPair old new parent child
    → ((a d : ℕ) → Contains ids a → Contains ids d → is_ancestor old a parent ≡ true → is_ancestor old child d ≡ true → ⊥) → Stay old new ids
pair_stays old new parent child ids pair apart = record {
  rates = λ x _. pair.rates x;
  ancestors = λ a d a_in d_in. pair.ancestors a d
      ∙ none_more (is_ancestor old a d) (is_ancestor old a parent && is_ancestor old child d)
      (λ both. let two = and_parts (is_ancestor old a parent) (is_ancestor old child d) both in apart a d a_in d_in two.0 two.1);
}

module _ (n : ℕ) (names : List ℕ) (g : Closure) (kept : IsNamed n names g) (p q parent child : ℕ) (one : IsAt names p parent) (two : IsAt names q child)
    (above below : set.FinSet nat_cmp) (are_above : above ≡ ancestors_of g p) (are_below : below ≡ descendants_of g q) (ids : List ℕ)
    (apart : (x y : ℕ) → x < length names → y < length names → Contains ids (slice_index names x) → Contains ids (slice_index names y)
    → set.contains above x ≡ true → set.contains below y ≡ true → ⊥) where
  -- the same by names
  pub apart_names : (a d : ℕ) → Contains ids a → Contains ids d → is_ancestor (named names g) a parent ≡ true → is_ancestor (named names g) child d ≡ true → ⊥
  apart_names a d a_in d_in up down =
      let first = ancestor-stands names g kept.once a parent up in
      let second = ancestor-stands names g kept.once child d down in
      let same_p : first.1 ≡ p = one_place names first.1 p 0 kept.once first.3 one.low (first.5 ∙ sym one.here) in
      let same_q : second.0 ≡ q = one_place names second.0 q 0 kept.once second.2 two.low (second.4 ∙ sym two.here) in
      let over : is_ancestor g first.0 p ≡ true = subst (λ (x : ℕ). is_ancestor g first.0 x ≡ true) same_p first.6 in
      let under : is_ancestor g q second.1 ≡ true = subst (λ (x : ℕ). is_ancestor g x second.1 ≡ true) same_q second.6 in
      apart first.0 second.1 first.2 second.3 (subst (Contains ids) (sym first.4) a_in) (subst (Contains ids) (sym second.5) d_in)
      (ap (λ s. set.contains s first.0) are_above ∙ over)
      (ap (λ s. set.contains s second.1) are_below ∙ contains-descendants_of g q second.1
      ∙ ap₂ (λ (x y : Bool). x && y) (place_member n names g kept second.1 second.3) under)

-- names of one of two clusters, where a name of the other comes to be above or below
module _ (f g h : Closure) (xs ys : List ℕ) (f_members : (id : ℕ) → is_member f id ≡ true → Contains xs id)
    (g_members : (id : ℕ) → is_member g id ≡ true → Contains ys id) (f_order : IsOrder (is_member f) (is_ancestor f))
    (g_order : IsOrder (is_member g) (is_ancestor g)) (f_there : (id : ℕ) → Contains xs id → is_member f id ≡ true)
    (g_there : (id : ℕ) → Contains ys id → is_member g id ≡ true) (apart : (id : ℕ) → Contains xs id → Contains ys id → ⊥)
    (parent child : ℕ) (sides : AreAcross xs ys parent child) (joins : Joins f g parent child h) where
  not_in_g : (a d : ℕ) → Contains xs a → is_ancestor g a d ≡ true → ⊥
  not_in_g a d here e = apart a here (g_members a (g_order.among a d e).0)

  not_in_g_below : (a d : ℕ) → Contains xs d → is_ancestor g a d ≡ true → ⊥
  not_in_g_below a d here e = apart d here (g_members d (g_order.among a d e).1)

  not_in_f : (a d : ℕ) → Contains ys a → is_ancestor f a d ≡ true → ⊥
  not_in_f a d here e = apart a (f_members a (f_order.among a d e).0) here

  not_in_f_below : (a d : ℕ) → Contains ys d → is_ancestor f a d ≡ true → ⊥
  not_in_f_below a d here e = apart d (f_members d (f_order.among a d e).1) here

  in_one : (a d : ℕ) → is_above f g a d ≡ true → (is_ancestor f a d ≡ true → ⊥) → (is_ancestor g a d ≡ true → ⊥) → ⊥
  in_one a d e first second = elim (or_cases (is_ancestor f a d) (is_ancestor g a d) e) [ inl one ↦ first one | inr two ↦ second two ]

  -- no name of the first is above and another of it below
  across_first : (a d : ℕ) → Contains xs a → Contains xs d → (is_above f g a parent && is_above f g child d) ≡ true → ⊥
  across_first a d a_in d_in both =
      let two = and_parts (is_above f g a parent) (is_above f g child d) both in
      elim sides [
        | inl up ↦ in_one child d two.1 (not_in_f child d up.1) (not_in_g_below child d d_in)
        | inr down ↦ in_one a parent two.0 (not_in_f_below a parent down.0) (not_in_g a parent a_in)
      ]

  across_second : (a d : ℕ) → Contains ys a → Contains ys d → (is_above f g a parent && is_above f g child d) ≡ true → ⊥
  across_second a d a_in d_in both =
      let two = and_parts (is_above f g a parent) (is_above f g child d) both in
      elim sides [
        | inl up ↦ in_one a parent two.0 (not_in_f a parent a_in) (not_in_g_below a parent up.0)
        | inr down ↦ in_one child d two.1 (not_in_f_below child d d_in) (not_in_g child d down.1)
      ]

  pub first_stays : (ids : List ℕ) → ((id : ℕ) → Contains ids id → Contains xs id) → Stay f h ids
  first_stays ids inside = record {
    rates = λ id here. joins.first_rates id (f_there id (inside id here));
    ancestors = λ a d a_in d_in. joins.ancestors a d
        ∙ none_more (is_above f g a d) (is_above f g a parent && is_above f g child d) (across_first a d (inside a a_in) (inside d d_in))
        ∙ none_more (is_ancestor f a d) (is_ancestor g a d) (not_in_g a d (inside a a_in));
  }

  or_none : (b c : Bool) → (b ≡ true → ⊥) → b || c ≡ c
  or_none true c none = absurd (none refl)
  or_none false c none = refl

  pub second_stays : (ids : List ℕ) → ((id : ℕ) → Contains ids id → Contains ys id) → Stay g h ids
  second_stays ids inside = record {
    rates = λ id here. joins.second_rates id (g_there id (inside id here));
    ancestors = λ a d a_in d_in. joins.ancestors a d
        ∙ none_more (is_above f g a d) (is_above f g a parent && is_above f g child d) (across_second a d (inside a a_in) (inside d d_in))
        ∙ or_none (is_ancestor f a d) (is_ancestor g a d) (not_in_f a d (inside a a_in));
  }

-- names that are left of a graph
pub left_stays : (names own : List ℕ) (old new : Closure) (chosen : set.FinSet nat_cmp) → IsPartOf names old chosen own new
    → (ids : List ℕ) → ((id : ℕ) → Contains ids id → Contains own id) → Stay old new ids
left_stays names own old new chosen part ids inside = record {
  rates = λ id here. part.rates id (inside id here);
  ancestors = λ a d a_in d_in. elim (cases_Bool (is_ancestor old a d)) as (λ _. is_ancestor new a d ≡ is_ancestor old a d) [
    | inl up ↦ (part.ancestors a d).1 ((part.names_are a).0 (inside a a_in), (part.names_are d).0 (inside d d_in), up) ∙ sym up
    | inr none ↦ false_from_ne_true _ (λ e. true≢false (sym ((part.ancestors a d).0 e).2 ∙ none)) ∙ sym none
  ];
}
