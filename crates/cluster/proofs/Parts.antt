-- Some places of a cluster, with their names.
use Rattle.std.proofs.Common.{◌≡◌, ℕ, ◌<◌, ◌≤◌, true, nat_lt, List, [], ◌∷◌, map, length, slice_index, Contains, inl, inr, sym, ap, ◌∙◌, subst, subst₂, arith, zero-add}
use Rattle.std.proofs.lemmas.List.{length-map, get_or-map}
use Rattle.std.specs.Ordering.{nat_cmp}
use Rattle.std.specs.FinSet as set
use Rattle.fee_rate.specs.Limits.{IsRate}
use Rattle.graphs.specs.Closures.{Closure, is_ancestor, rate_of, IsClosed, IsNear, IsPart, IsRelated}
use Rattle.lists.specs.Walks.{Walk, IsWalk}
use Rattle.lists.proofs.Rising.{rising_once}
use Rattle.bitset.specs.Places.{places, IsWithin}
use Rattle.bitset.specs.Sets.{IsRising-places, Contains-places, places-Contains}
use Rattle.fee_rate.specs.declared.rates.FeeRate.{FeeRate}
use Rattle.cluster.specs.Changes.{IsChosen, IsPartOf}
use Rattle.cluster.specs.Named.{named, IsNamed}
use Rattle.cluster.proofs.Names.{Contains-stands, named-ancestor, ancestor-stands, named-rate}
use Rattle.cluster.proofs.Lists.{chosen_once, chosen_few, names_chosen}

-- ---- places numbered anew

module _ (n : ℕ) (g h : Closure) (chosen : set.FinSet nat_cmp) (bound : IsWithin n chosen) (part : IsPart g (places n chosen) h) where
  abbrev ps : List ℕ
  ps = places n chosen

  pub chosen_at : (i : ℕ) → i < length ps → set.contains chosen (slice_index ps i) ≡ true
  chosen_at i low = (places-Contains n chosen (slice_index ps i) (Rattle.std.proofs.lemmas.List.Elements.Contains-get_or ps i 0 low)).1

  -- the number of a chosen place
  pub number_of : (p : ℕ) → set.contains chosen p ≡ true → (i : ℕ) × (i < length ps) × (slice_index ps i ≡ p)
  number_of p here = Contains-stands ps p (Contains-places n chosen p (bound p here) here)

  pub above : (i j : ℕ) → i < length ps → j < length ps → is_ancestor h i j ≡ is_ancestor g (slice_index ps i) (slice_index ps j)
  above i j low below =
      subst₂ (λ x y. is_ancestor h x y ≡ is_ancestor g (slice_index ps i) (slice_index ps j)) (zero-add i) (zero-add j) (part.copy.ancestors i j low below)

  pub rate : (i : ℕ) → i < length ps → rate_of h i ≡ rate_of g (slice_index ps i)
  rate i low = subst (λ x. rate_of h x ≡ rate_of g (slice_index ps i)) (zero-add i) (part.copy.rates i low)

  related : (i j : ℕ) → i < length ps → j < length ps → IsRelated g (slice_index ps i) (slice_index ps j) → IsRelated h i j
  related i j low below step = elim step [ inl up ↦ inl (above i j low below ∙ up) | inr down ↦ inr (above j i below low ∙ down) ]

  numbered : (i j : ℕ) (vs : List ℕ) → i < length ps → j < length ps
      → IsWalk (IsNear g chosen) (slice_index ps i) vs (slice_index ps j) → Walk (IsRelated h) i j
  numbered i j [] low below same = ([], rising_once ps (IsRising-places n chosen) i j low below same)
  numbered i j (v ∷ vs) low below walk =
      let at = number_of v walk.0.to_within in
      let rest : Walk (IsRelated h) at.0 j = numbered at.0 j vs at.1 below (subst (λ x. IsWalk (IsNear g chosen) x vs (slice_index ps j)) (sym at.2) walk.1) in
      (at.0 ∷ rest.0, (related i at.0 low at.1 (subst (λ x. IsRelated g (slice_index ps i) x) (sym at.2) walk.0.related), rest.1))

  -- what is joined among the places is joined among their numbers
  pub joined_anew : ((p q : ℕ) → set.contains chosen p ≡ true → set.contains chosen q ≡ true → Walk (IsNear g chosen) p q)
      → (i j : ℕ) → i < length ps → j < length ps → Walk (IsRelated h) i j
  joined_anew joined i j low below =
      let walk = joined (slice_index ps i) (slice_index ps j) (chosen_at i low) (chosen_at j below) in numbered i j walk.0 low below walk.1

-- ---- some places of a cluster

module _ (n : ℕ) (names : List ℕ) (g h : Closure) (chosen : set.FinSet nat_cmp) (kept : IsNamed n names g) (within : IsWithin (length names) chosen)
    (filled : (p : ℕ) × (set.contains chosen p ≡ true)) (part : IsPart g (places n chosen) h) (closed : IsClosed n h)
    (joined : (p q : ℕ) → set.contains chosen p ≡ true → set.contains chosen q ≡ true → Walk (IsNear g chosen) p q) where
  abbrev all : List ℕ
  all = places n chosen

  abbrev own : List ℕ
  own = map (slice_index names) all

  bound : IsWithin n chosen
  bound p here = let low : p < length names = within p here in let few : length names ≤ n = kept.few in omega arith

  place_at : (i : ℕ) → i < length all → slice_index all i < length names
  place_at i low = within (slice_index all i) (chosen_at n g h chosen bound part i low)

  own_at : (i : ℕ) → i < length all → slice_index own i ≡ slice_index names (slice_index all i)
  own_at i low = get_or-map (slice_index names) all i 0 0 low

  own_long : length own ≡ length all
  own_long = length-map all (slice_index names)

  some_place : 1 ≤ length all
  some_place = let at = number_of n g h chosen bound part filled.0 filled.1 in omega (arith, at.1)

  pub IsNamed-part : IsNamed n own h
  IsNamed-part = record {
    some = let some : 1 ≤ length all = some_place in let long : length own ≡ length all = own_long in omega arith;
    few = let few : length all ≤ length names = chosen_few n names chosen within in let most : length names ≤ n =
        kept.few in let long : length own ≡ length all = own_long in omega arith;
    once = chosen_once n names chosen within kept.once;
    members = λ k. part.members k ∙ ap (nat_lt k) (sym own_long);
    order = closed.order;
    whole = λ p q low below. joined_anew n g h chosen bound part joined p q (subst (λ m. p < m) own_long low) (subst (λ m. q < m) own_long below);
    rates = λ p low.
        let first : p < length all = subst (λ m. p < m) own_long low in
        subst (λ (r : FeeRate). IsRate r) (sym (rate n g h chosen bound part p first)) (kept.rates (slice_index all p) (place_at p first));
  }

  own_rate : (id : ℕ) → Contains own id → rate_of (named own h) id ≡ rate_of (named names g) id
  own_rate id here =
      let at = Contains-stands own id here in
      let low : at.0 < length all = subst (λ m. at.0 < m) own_long at.1 in
      let is : slice_index names (slice_index all at.0) ≡ id = sym (own_at at.0 low) ∙ at.2 in
      ap (rate_of (named own h)) (sym at.2) ∙ named-rate own h (chosen_once n names chosen within kept.once) at.0 at.1 ∙ rate n g h chosen bound part at.0 low
      ∙ sym (named-rate names g kept.once (slice_index all at.0) (place_at at.0 low)) ∙ ap (rate_of (named names g)) is

  own_above : (a d : ℕ) → is_ancestor (named own h) a d ≡ true → IsChosen names chosen a × IsChosen names chosen d × (is_ancestor (named names g) a d ≡ true)
  own_above a d up =
      let at = ancestor-stands own h (chosen_once n names chosen within kept.once) a d up in
      let low : at.0 < length all = subst (λ m. at.0 < m) own_long at.2 in
      let below : at.1 < length all = subst (λ m. at.1 < m) own_long at.3 in
      let first : slice_index names (slice_index all at.0) ≡ a = sym (own_at at.0 low) ∙ at.4 in
      let second : slice_index names (slice_index all at.1) ≡ d = sym (own_at at.1 below) ∙ at.5 in
      let holds : is_ancestor (named names g) (slice_index names (slice_index all at.0)) (slice_index names (slice_index all at.1)) ≡ true =
      named-ancestor names g kept.once (slice_index all at.0) (slice_index all at.1) (place_at at.0 low) (place_at at.1 below)
      ∙ sym (above n g h chosen bound part at.0 at.1 low below) ∙ at.6 in (
        (slice_index all at.0, (place_at at.0 low), chosen_at n g h chosen bound part at.0 low, first),
        (slice_index all at.1, (place_at at.1 below), chosen_at n g h chosen bound part at.1 below, second),
        subst₂ (λ x y. is_ancestor (named names g) x y ≡ true) first second holds,
      )

  above_own : (a d : ℕ) → IsChosen names chosen a → IsChosen names chosen d → is_ancestor (named names g) a d ≡ true → is_ancestor (named own h) a d ≡ true
  above_own a d first second up =
      let i = number_of n g h chosen bound part first.0 first.2 in
      let j = number_of n g h chosen bound part second.0 second.2 in
      let one : slice_index own i.0 ≡ a = own_at i.0 i.1 ∙ ap (slice_index names) i.2 ∙ first.3 in
      let two : slice_index own j.0 ≡ d = own_at j.0 j.1 ∙ ap (slice_index names) j.2 ∙ second.3 in
      let there : is_ancestor g first.0 second.0 ≡ true =
      sym (named-ancestor names g kept.once first.0 second.0 first.1 second.1)
      ∙ subst₂ (λ x y. is_ancestor (named names g) x y ≡ true) (sym first.3) (sym second.3) up in
      let here : is_ancestor h i.0 j.0 ≡ true = above n g h chosen bound part i.0 j.0 i.1 j.1 ∙ subst₂ (λ x y. is_ancestor g x y ≡ true) (sym i.2) (sym j.2) there in
      subst₂ (λ x y. is_ancestor (named own h) x y ≡ true) one two
      (named-ancestor own h (chosen_once n names chosen within kept.once) i.0 j.0
      (subst (λ m. i.0 < m) (sym own_long) i.1) (subst (λ m. j.0 < m) (sym own_long) j.1) ∙ here)

  pub IsPartOf-named : IsPartOf names (named names g) chosen own (named own h)
  IsPartOf-named = record {
    names_are = names_chosen n names chosen within bound;
    rates = own_rate;
    ancestors = λ a d. (own_above a d, λ all. above_own a d all.0 all.1 all.2);
  }
