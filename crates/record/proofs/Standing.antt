-- A dependency graph that is made of transactions and pairs.
use Rattle.std.proofs.Common.{rules, SFits, to_z, of_z, ◌≡◌, ℕ, ℤ, zero, suc, ◌<◌, ◌≤◌, ◌+◌, ◌||◌, ◌&&◌, Bool, false, nat_eq, nat_lt, List, [], ◌∷◌, ◌++◌, length, take, drop, slice_index, pos, inl, inr, sym, ap, ap₂, ◌∙◌, subst, true≢false, eqb-true, eq-eqb, lt-ltb, le-ltb, zero-add, arith}
use Rattle.std.specs.Prelude.{Contains, Option, is_some}
use Rattle.std.specs.List.{range_with_len}
use Rattle.std.specs.Int.{w64}
use Rattle.std.proofs.lemmas.Int.{to_z-of_z}
use Rattle.std.specs.Ordering.{nat_cmp}
use Rattle.std.specs.FinSet as set
use Rattle.std.specs.FinMap as finmap
use Rattle.std.proofs.lemmas.Bool.{cases_eq, cases_lt, or_cases, or_left, or_right, and_parts, and_from, ltb-true, false_from_ne_true}
use Rattle.std.proofs.lemmas.Bool.Decides.{nat_tests}
use Rattle.std.proofs.lemmas.List.{length-map, get_or-map, take-append-drop}
use Rattle.std.proofs.lemmas.List.Elements.{Contains-append_left, Contains-get_or}
use Rattle.std.proofs.lemmas.List.FromFn.{length-range_with_len, get_or-range_with_len}
use Rattle.lists.specs.Distinct.{AreDistinct}
use Rattle.lists.proofs.Distinct.{one_place}
use Rattle.lists.proofs.Entries.{none_in_empty}
use Rattle.lists.proofs.Ranges.{first_pass}
use Rattle.bitset.specs.Places.{places, IsWithin}
use Rattle.bitset.specs.Sets.{len-places, contains-empty}
use Rattle.fee_rate.specs.Limits.{IsFee}
use Rattle.fee_rate.specs.declared.rates.FeeRate.{FeeRate}
use Rattle.graphs.specs.Certificates.{Txs}
use Rattle.graphs.specs.Closures.{Closure, Node, is_member, is_ancestor, ancestors_of, ancestors_in, rate_of, members_of, AddsPlace, AddsPair}
use Rattle.graphs.specs.Graphs.{IsAncestor, HasNoCycle}
use Rattle.graphs.proofs.Members.{contains-members_of}
use Rattle.graphs.proofs.PairLemmas.{ancestors_through}
use Rattle.graphs.proofs.WalkLemmas.{walk_within}
use Rattle.links.specs.Links.{AreInRange}
use Rattle.links.specs.Kept.{names_of}
use Rattle.record.specs.Solving.{AreAlone, StandsFor, tx_at, rate_at}

-- ---- places without a gap

module _ (n count : ℕ) (g : Closure) (few : count ≤ n) (members : (p : ℕ) → is_member g p ≡ nat_lt p count) where
  pub first_places_are : places n (members_of g) ≡ range_with_len 0 count
  first_places_are =
      first_pass (set.contains (members_of g)) 0 count n count (zero-add count) few (λ p low. contains-members_of g p ∙ members p)

  pub first_place_at : (i : ℕ) → i < count → slice_index (places n (members_of g)) i ≡ i
  first_place_at i low = ap (λ xs. slice_index xs i) first_places_are ∙ get_or-range_with_len 0 count i 0 low ∙ zero-add i

  pub members_within : IsWithin count (members_of g)
  members_within p here = ltb-true p count (sym (contains-members_of g p ∙ members p) ∙ here)

  pub members_many : set.len (members_of g) ≡ count
  members_many =
      len-places n (members_of g) (λ p here. let low : p < count = members_within p here in omega (arith, low, few))
      ∙ ap length first_places_are ∙ length-range_with_len 0 count

-- ---- members without a dependency

no_member : (p : ℕ) → is_member finmap.empty p ≡ false
unfolding is_member
no_member p = ap is_some (finmap.get-empty nat_cmp p)

none_above : (a d : ℕ) → is_ancestor finmap.empty a d ≡ false
unfolding ancestors_of
none_above a d = ap (λ (o : Option Node). set.contains (ancestors_in o) a) (finmap.get-empty nat_cmp d) ∙ contains-empty a

pub none_alone : (txs : Txs) (g : Closure) → g ≡ finmap.empty → AreAlone txs 0 g
none_alone txs g none = record {
  members = λ p. ap (λ (h : Closure). is_member h p) none ∙ no_member p ∙ sym (le-ltb p 0 (omega arith));
  rates = λ p low. absurd (omega (arith, low));
  alone = λ a d. (
    (λ up. absurd (true≢false (sym up ∙ ap (λ (h : Closure). is_ancestor h a d) none ∙ none_above a d))),
    (λ both. absurd (omega (arith, both.1))),
  );
}

module _ (txs : Txs) (count : ℕ) (old new : Closure) (rate : FeeRate) (place : ℕ) (so : AreAlone txs count old) (adds : AddsPlace old new rate place)
    (same : rate ≡ rate_at txs count) where
  next_place : place ≡ count
  next_place = elim (cases_lt place count) [
    | inl low ↦ absurd (true≢false (sym (so.members place ∙ lt-ltb place count low) ∙ adds.free))
    | inr high ↦ elim (cases_eq place count) [
      | inl is ↦ is
      | inr other ↦
          let below : count < count = ltb-true count count (sym (so.members count) ∙ adds.least count (omega (arith, high, other))) in
          absurd (omega (arith, below))
    ]
  ]

  pub alone_more : AreAlone txs (count + 1) new
  alone_more = record {
    members = λ p. adds.members p ∙ ap₂ (λ (q : ℕ) (b : Bool). nat_eq p q || b) next_place (so.members p) ∙ one_higher p count;
    rates = λ p low. elim (cases_eq p count) [
      | inl is ↦
          subst (λ (x : ℕ). rate_of new x ≡ rate_at txs x) (sym is)
          (subst (λ (x : ℕ). rate_of new x ≡ rate) next_place adds.rate_is ∙ same)
      | inr other ↦ adds.rates p (λ e. other (e ∙ next_place)) ∙ so.rates p (omega (arith, low, other))
    ];
    alone = λ a d. (
      (λ up. elim (or_cases (nat_eq a place && nat_eq d place) (is_ancestor old a d) (sym (adds.ancestors a d) ∙ up)) [
        | inl both ↦
            let ends = and_parts (nat_eq a place) (nat_eq d place) both in
            let first : a ≡ place = eqb-true a place ends.0 in
            let at : a ≡ count = first ∙ next_place in
            (first ∙ sym (eqb-true d place ends.1), omega (arith, at))
        | inr was ↦ let is = (so.alone a d).0 was in (is.0, omega (arith, is.1))
      ]),
      (λ (is, low). adds.ancestors a d ∙ elim (cases_eq a count) [
        | inl last ↦
            let first : a ≡ place = last ∙ sym next_place in
            or_left (nat_eq a place && nat_eq d place) (is_ancestor old a d)
            (and_from (nat_eq a place) (nat_eq d place) (eq-eqb a place first) (eq-eqb d place (sym is ∙ first)))
        | inr other ↦
            or_right (nat_eq a place && nat_eq d place) (is_ancestor old a d) ((so.alone a d).1 (is, omega (arith, low, other)))
      ]),
    );
  }
    where
      one_higher : (p n : ℕ) → (nat_eq p n || nat_lt p n) ≡ nat_lt p (n + 1)
      one_higher p n = grind (arith, nat_tests)

-- the name at a position
pub name_told : (txs : Txs) (p : ℕ) → p < length txs → slice_index (names_of txs) p ≡ (tx_at txs p).0
name_told txs p low = get_or-map (λ (tx : ℕ × ℤ × ℕ). tx.0) txs p (0, pos 0, 0) 0 low

pub names_long : (txs : Txs) → length (names_of txs) ≡ length txs
names_long txs = length-map txs (λ (tx : ℕ × ℤ × ℕ). tx.0)

-- a position among the names is one among the transactions
pub place_told : (names : List ℕ) (txs : Txs) (p id : ℕ) → names ≡ names_of txs → p < length names → slice_index names p ≡ id
    → (p < length txs) × ((tx_at txs p).0 ≡ id)
place_told names txs p id same low here =
    let below : p < length txs = subst (λ n. p < n) (ap (λ (xs : List ℕ). length xs) same ∙ names_long txs) low in
    (below, sym (name_told txs p below) ∙ ap (λ (xs : List ℕ). slice_index xs p) (sym same) ∙ here)

-- positions of one name are one
pub same_place : (txs : Txs) → AreDistinct (names_of txs) → (a d : ℕ) → a < length txs → d < length txs → (tx_at txs a).0 ≡ (tx_at txs d).0 → a ≡ d
same_place txs once a d low below same =
    one_place (names_of txs) a d 0 once (subst (λ n. a < n) (sym (names_long txs)) low) (subst (λ n. d < n) (sym (names_long txs)) below)
    (name_told txs a low ∙ same ∙ sym (name_told txs d below))

empty_walk : (a b : ℕ) → IsAncestor [] a b → a ≡ b
empty_walk a b (zero, same) = same
empty_walk a b (suc n, walk) = absurd (none_in_empty (walk.0, b) walk.2)

pub alone_stands : (txs : Txs) (count : ℕ) (g : Closure) → AreDistinct (names_of txs) → count ≡ length txs → AreAlone txs count g → StandsFor txs [] g
alone_stands txs count g once all so = record {
  members = λ p. so.members p ∙ ap (nat_lt p) all;
  rates = λ p low. so.rates p (subst (λ n. p < n) (sym all) low);
  ancestors = λ a d low below. (
    (λ up. (0, ap (λ (x : ℕ). (tx_at txs x).0) ((so.alone a d).0 up).0)),
    (λ walk. (so.alone a d).1 (
      same_place txs once a d low below (empty_walk (tx_at txs a).0 (tx_at txs d).0 walk),
      subst (λ n. a < n) (sym all) low,
    )),
  );
}

-- ---- one pair more

pub pair_stands : (txs : Txs) (pairs : List (ℕ × ℕ)) (old new : Closure) (p c parent child : ℕ) → StandsFor txs pairs old → AddsPair old new p c
    → p < length txs → c < length txs → (tx_at txs p).0 ≡ parent → (tx_at txs c).0 ≡ child → StandsFor txs (pairs ++ (parent, child) ∷ []) new
pair_stands txs pairs old new p c parent child so adds in_p in_c is_p is_c = record {
  members = λ q. adds.members q ∙ so.members q;
  rates = λ q low. adds.rates q ∙ so.rates q low;
  ancestors = λ a d low below. (
    (λ up.
        (ancestors_through pairs parent child (tx_at txs a).0 (tx_at txs d).0).1
        (elim (or_cases (is_ancestor old a d) (is_ancestor old a p && is_ancestor old c d) (sym (adds.ancestors a d) ∙ up)) [
          | inl was ↦ inl ((so.ancestors a d low below).0 was)
          | inr both ↦
              let ends = and_parts (is_ancestor old a p) (is_ancestor old c d) both in
              inr (
                subst (λ (x : ℕ). IsAncestor pairs (tx_at txs a).0 x) is_p ((so.ancestors a p low in_p).0 ends.0),
                subst (λ (x : ℕ). IsAncestor pairs x (tx_at txs d).0) is_c ((so.ancestors c d in_c below).0 ends.1),
              )
        ])),
    (λ walk. adds.ancestors a d ∙ elim ((ancestors_through pairs parent child (tx_at txs a).0 (tx_at txs d).0).0 walk) [
      | inl was ↦ or_left (is_ancestor old a d) (is_ancestor old a p && is_ancestor old c d) ((so.ancestors a d low below).1 was)
      | inr both ↦
          or_right (is_ancestor old a d) (is_ancestor old a p && is_ancestor old c d)
          (and_from (is_ancestor old a p) (is_ancestor old c d)
          ((so.ancestors a p low in_p).1 (subst (λ (x : ℕ). IsAncestor pairs (tx_at txs a).0 x) (sym is_p) both.0))
          ((so.ancestors c d in_c below).1 (subst (λ (x : ℕ). IsAncestor pairs x (tx_at txs d).0) (sym is_c) both.1)))
    ]),
  );
}

of_front : (pairs : List (ℕ × ℕ)) (at : ℕ) (pair : ℕ × ℕ) → Contains (take at pairs) pair → Contains pairs pair
of_front pairs at pair here =
    subst (λ (ps : List (ℕ × ℕ)). Contains ps pair) (take-append-drop at pairs) (Contains-append_left (take at pairs) (drop at pairs) pair here)

-- a pair that makes no cycle with those before it
pub no_way_back : (txs : Txs) (pairs : List (ℕ × ℕ)) (at : ℕ) (dep : Closure) (p c : ℕ) → HasNoCycle pairs → StandsFor txs (take at pairs) dep
    → p < length txs → c < length txs → Contains {X = ℕ × ℕ} pairs ((tx_at txs p).0, (tx_at txs c).0) → is_ancestor dep c p ≡ false
no_way_back txs pairs at dep p c none so in_p in_c pair =
    false_from_ne_true (is_ancestor dep c p) (λ up.
    let walk = (so.ancestors c p in_c in_p).0 up in
    let along = walk_within (take at pairs) pairs (λ x y here. of_front pairs at (x, y) here) (tx_at txs c).0 (tx_at txs p).0 walk.0 walk.1 in
    none (tx_at txs c).0 walk.0 ((tx_at txs p).0, along, pair))

-- a fee that is read as 64 bits
pub fee_read : (txs : Txs) → AreInRange txs → (at : ℕ) → at < length txs
    → record { fee = to_z w64 (of_z w64 (tx_at txs at).1); size = (tx_at txs at).2 } ≡ rate_at txs at
fee_read txs in_range at low =
    let here : Contains {X = ℕ × ℤ × ℕ} txs (tx_at txs at) = Contains-get_or txs at (0, pos 0, 0) low in
    let tx = tx_at txs at in
    ap (λ (fee : ℤ). record { fee = fee; size = tx.2 }) (to_z-of_z w64 tx.1 (fee_fits tx.1 (in_range tx.0 tx.1 tx.2 here).0))
  where
    fee_fits : (fee : ℤ) → IsFee fee → SFits w64 fee
    fee_fits fee small = search rules
