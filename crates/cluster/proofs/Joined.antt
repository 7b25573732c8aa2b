-- Two clusters in one, with a dependency from the one to the other.
use Rattle.std.proofs.Common.{◌≡◌, ℕ, ◌+◌, ◌-◌, ◌<◌, ◌≤◌, Bool, true, false, ◌&&◌, ◌||◌, nat_lt, List, ◌++◌, length, slice_index, Contains, inl, inr, ◌⊎◌, refl, sym, ap, ap₂, ◌∙◌, subst, subst₂, arith, zero-add, length-append, lt-ltb}
use Rattle.std.proofs.lemmas.Bool.{cases_lt, false_from_ne_true, or_cases, and_parts, ltb-true}
use Rattle.std.proofs.lemmas.List.{get_or_append_left, get_or-append_right}
use Rattle.std.proofs.lemmas.List.FromFn.{length-range_with_len, get_or-range_with_len}
use Rattle.std.specs.List.{range_with_len}
use Rattle.std.specs.FinSet as set
use Rattle.lists.proofs.Cases.{or_false}
use Rattle.lists.proofs.Distinct.{distinct_joined}
use Rattle.lists.specs.Distinct.{AreDistinct}
use Rattle.fee_rate.specs.Limits.{IsRate}
use Rattle.graphs.specs.Closures.{Closure, is_member, is_ancestor, rate_of, members_of, IsClosed, IsMerged, AddsPair, IsRelated}
use Rattle.lists.proofs.Walks.{Walk-trans, Walk-back, Walk-push, Walk-map}
use Rattle.lists.specs.Walks.{Walk}
use Rattle.lists.proofs.Ranges.{first_pass}
use Rattle.bitset.specs.Places.{places, IsWithin}
use Rattle.bitset.specs.Sets.{len-places}
use Rattle.fee_rate.specs.declared.rates.FeeRate.{FeeRate}
use Rattle.cluster.specs.Changes.{Joins, is_above}
use Rattle.cluster.specs.Named.{named, IsNamed}
use Rattle.cluster.proofs.Names.{Stands, Stands-contains, named-ancestor, named-rate, member-stands}
use Rattle.cluster.proofs.Kept.{by_places, ancestor_ends}
use Rattle.cluster.proofs.Listings.{contains-members_of}

-- ---- places without a gap

member_bound : (n : ℕ) (names : List ℕ) (g : Closure) → IsNamed n names g → IsWithin n (members_of g)
member_bound n names g kept p here =
    let low : p < length names = ltb-true p (length names) (sym (contains-members_of g p ∙ kept.members p) ∙ here) in
    let few : length names ≤ n = kept.few in omega arith

-- the places of a cluster are the numbers from 0 on
pub dense_places : (n : ℕ) (names : List ℕ) (g : Closure) → IsNamed n names g → places n (members_of g) ≡ range_with_len 0 (length names)
dense_places n names g kept =
    first_pass (set.contains (members_of g)) 0 (length names) n (length names) (zero-add (length names)) kept.few
    (λ p low. contains-members_of g p ∙ kept.members p)

pub dense_long : (n : ℕ) (names : List ℕ) (g : Closure) → IsNamed n names g → length (places n (members_of g)) ≡ length names
dense_long n names g kept = ap length (dense_places n names g kept) ∙ length-range_with_len 0 (length names)

pub members_long : (n : ℕ) (names : List ℕ) (g : Closure) → IsNamed n names g → set.len (members_of g) ≡ length names
members_long n names g kept = len-places n (members_of g) (member_bound n names g kept) ∙ dense_long n names g kept

pub dense_at : (n : ℕ) (names : List ℕ) (g : Closure) → IsNamed n names g → (i : ℕ) → i < length names → slice_index (places n (members_of g)) i ≡ i
dense_at n names g kept i low = ap (λ xs. slice_index xs i) (dense_places n names g kept) ∙ get_or-range_with_len 0 (length names) i 0 low ∙ zero-add i

-- two places on both sides of one
abbrev pub IsAcross : ℕ → ℕ → ℕ → Type 0
IsAcross m a b = ((a < m) × (m ≤ b)) ⊎ ((m ≤ a) × (b < m))

module _ (n : ℕ) (xs ys : List ℕ) (f g h : Closure) (one : IsNamed n xs f) (two : IsNamed n ys g) (few : length xs + length ys ≤ n)
    (apart : (id : ℕ) → Contains xs id → Contains ys id → ⊥) (merged : IsMerged f g (places n (members_of f)) (places n (members_of g)) h) where
  pub merged_member : (p : ℕ) → is_member h p ≡ nat_lt p (length xs + length ys)
  merged_member p = merged.members p ∙ ap₂ (λ a b. nat_lt p (a + b)) (dense_long n xs f one) (dense_long n ys g two)

  pub across : (i j : ℕ) → i < length xs → length xs ≤ j → (is_ancestor h i j ≡ false) × (is_ancestor h j i ≡ false)
  across i j p q = merged.apart i j (subst (λ m. i < m) (sym (dense_long n xs f one)) p) (subst (λ m. m ≤ j) (sym (dense_long n xs f one)) q)

  module _ (h' : Closure) (a b : ℕ) (pair : AddsPair h h' a b) where
    abbrev all : List ℕ
    all = xs ++ ys

    long : length all ≡ length xs + length ys
    long = length-append xs ys

    first_at : (i : ℕ) → i < length xs → slice_index all i ≡ slice_index xs i
    first_at i in_first = get_or_append_left xs ys 0 i in_first

    second_at : (j : ℕ) → slice_index all (length xs + j) ≡ slice_index ys j
    second_at j = get_or-append_right xs ys (length xs) (length xs + j) 0 refl (omega arith)
        ∙ ap (slice_index ys) (let e : length xs + j - length xs ≡ j = omega arith in e)

    -- the relation of the merged graph, by its two parts
    first_above : (i j : ℕ) → i < length xs → j < length xs → is_ancestor h i j ≡ is_ancestor f i j
    first_above i j p q =
        subst₂ (λ a b. is_ancestor h a b ≡ is_ancestor f (slice_index (places n (members_of f)) i) (slice_index (places n (members_of f)) j))
        (zero-add i) (zero-add j)
        (merged.first.ancestors i j (subst (λ m. i < m) (sym (dense_long n xs f one)) p) (subst (λ m. j < m) (sym (dense_long n xs f one)) q))
        ∙ ap₂ (is_ancestor f) (dense_at n xs f one i p) (dense_at n xs f one j q)

    second_above : (i j : ℕ) → i < length ys → j < length ys → is_ancestor h (length xs + i) (length xs + j) ≡ is_ancestor g i j
    second_above i j p q =
        subst (λ m. is_ancestor h (m + i) (m + j) ≡ is_ancestor g (slice_index (places n (members_of g)) i) (slice_index (places n (members_of g)) j))
        (dense_long n xs f one)
        (merged.second.ancestors i j (subst (λ m. i < m) (sym (dense_long n ys g two)) p) (subst (λ m. j < m) (sym (dense_long n ys g two)) q))
        ∙ ap₂ (is_ancestor g) (dense_at n ys g two i p) (dense_at n ys g two j q)

    first_rate : (i : ℕ) → i < length xs → rate_of h' i ≡ rate_of f i
    first_rate i p =
        pair.rates i
        ∙ subst (λ a. rate_of h a ≡ rate_of f (slice_index (places n (members_of f)) i))
        (zero-add i) (merged.first.rates i (subst (λ m. i < m) (sym (dense_long n xs f one)) p))
        ∙ ap (rate_of f) (dense_at n xs f one i p)

    second_rate : (j : ℕ) → j < length ys → rate_of h' (length xs + j) ≡ rate_of g j
    second_rate j p =
        pair.rates (length xs + j)
        ∙ subst (λ m. rate_of h (m + j) ≡ rate_of g (slice_index (places n (members_of g)) j))
        (dense_long n xs f one) (merged.second.rates j (subst (λ m. j < m) (sym (dense_long n ys g two)) p))
        ∙ ap (rate_of g) (dense_at n ys g two j p)

    -- a place of the joined cluster is one of either part
    data Side : ℕ → Type 0 where
      Left : (i : ℕ) (inside : i < length xs) → Side i
      Right : (j : ℕ) (inside : j < length ys) → Side (length xs + j)

    side : (p : ℕ) → p < length all → Side p
    side p inside = elim (cases_lt p (length xs)) [
      | inl first ↦ Left p first
      | inr later ↦ subst Side (let e : length xs + (p - length xs) ≡ p = omega arith in e)
          (Right (p - length xs) (let l : length all ≡ length xs + length ys = long in omega arith))
    ]

    once_all : AreDistinct all
    once_all = distinct_joined xs ys one.once two.once apart

    more : (p q : ℕ) → is_ancestor h p q ≡ true → is_ancestor h' p q ≡ true
    more p q e = pair.ancestors p q ∙ ap (λ t. t || (is_ancestor h p a && is_ancestor h b q)) e

    turn : (p q : ℕ) → IsRelated h' p q → IsRelated h' q p
    turn p q related = elim related [ inl up ↦ inr up | inr down ↦ inl down ]

    itself : (p : ℕ) → Side p → is_ancestor h p p ≡ true
    itself p (Left i inside) = first_above i i inside inside ∙ one.order.reflexive i (one.members i ∙ lt-ltb i (length xs) inside)
    itself p (Right j inside) = second_above j j inside inside ∙ two.order.reflexive j (two.members j ∙ lt-ltb j (length ys) inside)

    joined_up : a < length all → b < length all → IsRelated h' a b
    joined_up low below = inl (pair.ancestors a b ∙ both (is_ancestor h a b) (itself a (side a low)) (itself b (side b below)))
      where
        both : (t : Bool) {c d : Bool} → c ≡ true → d ≡ true → (t || (c && d)) ≡ true
        both true e f = refl
        both false e f = ap₂ (λ x y. x && y) e f

    -- related members of a part are related in the whole
    first_related : (i j : ℕ) → IsRelated f i j → IsRelated h' i j
    first_related i j related = elim related [
      | inl up ↦ let ends = one.order.among i j up in inl (more i j (first_above i j (inside i ends.0) (inside j ends.1) ∙ up))
      | inr down ↦ let ends = one.order.among j i down in inr (more j i (first_above j i (inside j ends.0) (inside i ends.1) ∙ down))
    ]
      where
        inside : (p : ℕ) → is_member f p ≡ true → p < length xs
        inside p member = ltb-true p (length xs) (sym (one.members p) ∙ member)

    second_related : (i j : ℕ) → IsRelated g i j → IsRelated h' (length xs + i) (length xs + j)
    second_related i j related = elim related [
      | inl up ↦ let ends = two.order.among i j up in inl (more (length xs + i) (length xs + j) (second_above i j (inside i ends.0) (inside j ends.1) ∙ up))
      | inr down ↦ let ends = two.order.among j i down in
          inr (more (length xs + j) (length xs + i) (second_above j i (inside j ends.0) (inside i ends.1) ∙ down))
    ]
      where
        inside : (p : ℕ) → is_member g p ≡ true → p < length ys
        inside p member = ltb-true p (length ys) (sym (two.members p) ∙ member)

    -- each place is linked to the end of the pair in the first part, where the other end is in the second
    to_first : (u v : ℕ) → u < length xs → v < length ys → IsRelated h' u (length xs + v) → (p : ℕ) → Side p → Walk (IsRelated h') p u
    to_first u v low below related p (Left i inside) = Walk-map (λ k. k) (IsRelated f) (IsRelated h') first_related i u (one.whole i u inside low)
    to_first u v low below related p (Right j inside) =
        Walk-push (IsRelated h') (length xs + j) (length xs + v) u
        (Walk-map (λ k. length xs + k) (IsRelated g) (IsRelated h') second_related j v (two.whole j v inside below)) (turn u (length xs + v) related)

    rate_at : (p : ℕ) → Side p → IsRate (rate_of h' p)
    rate_at p (Left i inside) = subst (λ (r : FeeRate). IsRate r) (sym (first_rate i inside)) (one.rates i inside)
    rate_at p (Right j inside) = subst (λ (r : FeeRate). IsRate r) (sym (second_rate j inside)) (two.rates j inside)

    Linked : Type 0
    Linked = (u v : ℕ) × (u < length xs) × (v < length ys) × IsRelated h' u (length xs + v)

    linked : a < length all → b < length all → IsAcross (length xs) a b → Linked
    unfolding Linked
    linked low below across = elim across [
      | inl up ↦
          let l : length all ≡ length xs + length ys = long in (
            a,
            b - length xs,
            up.0,
            omega (arith, up.1),
            subst (IsRelated h' a) (let later : length xs ≤ b = up.1 in let e : b ≡ length xs + (b - length xs) = omega arith in e) (joined_up low below),
          )
      | inr down ↦
          let l : length all ≡ length xs + length ys = long in (
            b,
            a - length xs,
            down.1,
            omega (arith, down.0),
            subst (IsRelated h' b) (let later : length xs ≤ a = down.0 in let e : a ≡ length xs + (a - length xs) = omega arith in e)
                (turn a b (joined_up low below)),
          )
    ]

    pub IsNamed-joined : a < length (xs ++ ys) → b < length (xs ++ ys) → IsAcross (length xs) a b → IsClosed n h' → IsNamed n (xs ++ ys) h'
    unfolding Linked
    IsNamed-joined low below across closed =
        let join = linked low below across in
        record {
          some = let l : length all ≡ length xs + length ys = long in let some : 1 ≤ length xs = one.some in omega arith;
          few = subst (λ m. m ≤ n) (sym long) few;
          once = once_all;
          members = λ p. pair.members p ∙ merged_member p ∙ ap (nat_lt p) (sym long);
          order = closed.order;
          whole = λ p q inside within. Walk-trans (IsRelated h') p join.0 q (to_first join.0 join.1 join.2 join.3 join.4 p (side p inside))
              (Walk-back (IsRelated h') turn q join.0 (to_first join.0 join.1 join.2 join.3 join.4 q (side q within)));
          rates = λ p inside. rate_at p (side p inside);
        }

    -- ---- by names

    no_ancestor : (zs : List ℕ) (k : Closure) → AreDistinct zs → (a d : ℕ) → (Stands zs a → ⊥) ⊎ (Stands zs d → ⊥) → is_ancestor (named zs k) a d ≡ false
    no_ancestor zs k once a d absent = false_from_ne_true (is_ancestor (named zs k) a d)
        (λ up. let ends = ancestor_ends zs k once a d up in elim absent [ inl none ↦ none ends.0 | inr none ↦ none ends.1 ])

    not_second : (i : ℕ) → i < length xs → Stands ys (slice_index xs i) → ⊥
    not_second i inside there = apart (slice_index xs i) (Stands-contains xs (slice_index xs i) (i, inside, refl)) (Stands-contains ys (slice_index xs i) there)

    not_first : (j : ℕ) → j < length ys → Stands xs (slice_index ys j) → ⊥
    not_first j inside there = apart (slice_index ys j) (Stands-contains xs (slice_index ys j) there) (Stands-contains ys (slice_index ys j) (j, inside, refl))

    abbrev F : ℕ → ℕ → Bool
    F a d = is_ancestor (named xs f) a d

    abbrev G : ℕ → ℕ → Bool
    G a d = is_ancestor (named ys g) a d

    abbrev H : ℕ → ℕ → Bool
    H a d = is_above (named xs f) (named ys g) a d

    -- an ancestor in the merged graph is one in either
    either : (p q : ℕ) → Side p → Side q → is_ancestor h p q ≡ H (slice_index all p) (slice_index all q)
    either p q (Left i first) (Left j second) =
        first_above i j first second ∙ sym (named-ancestor xs f one.once i j first second) ∙ sym (or_false (F (slice_index xs i) (slice_index xs j)))
        ∙ ap (λ b. F (slice_index xs i) (slice_index xs j) || b)
        (sym (no_ancestor ys g two.once (slice_index xs i) (slice_index xs j) (inl (not_second i first))))
        ∙ sym (ap₂ (λ a d. F a d || G a d) (first_at i first) (first_at j second))
    either p q (Left i first) (Right j second) =
        (across i (length xs + j) first (omega arith)).0
        ∙ sym (ap₂ (λ x y. x || y) (no_ancestor xs f one.once (slice_index xs i) (slice_index ys j) (inr (not_first j second)))
        (no_ancestor ys g two.once (slice_index xs i) (slice_index ys j) (inl (not_second i first))))
        ∙ sym (ap₂ (λ a d. F a d || G a d) (first_at i first) (second_at j))
    either p q (Right i first) (Left j second) =
        (across j (length xs + i) second (omega arith)).1
        ∙ sym (ap₂ (λ x y. x || y) (no_ancestor xs f one.once (slice_index ys i) (slice_index xs j) (inl (not_first i first)))
        (no_ancestor ys g two.once (slice_index ys i) (slice_index xs j) (inr (not_second j second))))
        ∙ sym (ap₂ (λ a d. F a d || G a d) (second_at i) (first_at j second))
    either p q (Right i first) (Right j second) =
        second_above i j first second ∙ sym (named-ancestor ys g two.once i j first second)
        ∙ ap (λ b. b || G (slice_index ys i) (slice_index ys j))
        (sym (no_ancestor xs f one.once (slice_index ys i) (slice_index ys j) (inl (not_first i first))))
        ∙ sym (ap₂ (λ a d. F a d || G a d) (second_at i) (second_at j))

    in_all : (id : ℕ) → Stands xs id ⊎ Stands ys id → Stands all id
    in_all id at = elim at [
      | inl first ↦ (
        first.0,
        (let l : length all ≡ length xs + length ys = long in let p : first.0 < length xs = first.1 in omega arith),
        first_at first.0 first.1 ∙ first.2,
      )
      | inr second ↦ (
        length xs + second.0,
        (let l : length all ≡ length xs + length ys = long in let p : second.0 < length ys = second.1 in omega arith),
        second_at second.0 ∙ second.2,
      )
    ]

    above_ends : (a d : ℕ) → H a d ≡ true → Stands all a × Stands all d
    above_ends a d holds = elim (or_cases (F a d) (G a d) holds) [
      | inl old ↦ let ends = ancestor_ends xs f one.once a d old in (in_all a (inl ends.0), in_all d (inl ends.1))
      | inr old ↦ let ends = ancestor_ends ys g two.once a d old in (in_all a (inr ends.0), in_all d (inr ends.1))
    ]

    named_first_rate : (id : ℕ) → is_member (named xs f) id ≡ true → rate_of (named all h') id ≡ rate_of (named xs f) id
    named_first_rate id member =
        let at = member-stands xs f one.once id member in
        let inside : at.0 < length all = (let l : length all ≡ length xs + length ys = long in let p : at.0 < length xs = at.1 in omega arith) in
        ap (rate_of (named all h')) (sym at.2 ∙ sym (first_at at.0 at.1)) ∙ named-rate all h' once_all at.0 inside ∙ first_rate at.0 at.1
        ∙ sym (named-rate xs f one.once at.0 at.1) ∙ ap (rate_of (named xs f)) at.2

    named_second_rate : (id : ℕ) → is_member (named ys g) id ≡ true → rate_of (named all h') id ≡ rate_of (named ys g) id
    named_second_rate id member =
        let at = member-stands ys g two.once id member in
        let inside : length xs + at.0 < length all = (let l : length all ≡ length xs + length ys = long in let p : at.0 < length ys = at.1 in omega arith) in
        ap (rate_of (named all h')) (sym at.2 ∙ sym (second_at at.0)) ∙ named-rate all h' once_all (length xs + at.0) inside ∙ second_rate at.0 at.1
        ∙ sym (named-rate ys g two.once at.0 at.1) ∙ ap (rate_of (named ys g)) at.2

    module _ (low : a < length (xs ++ ys)) (below : b < length (xs ++ ys)) where
      at_places : (p q : ℕ) → p < length all → q < length all → is_ancestor (named all h') (slice_index all p) (slice_index all q)
          ≡ (H (slice_index all p) (slice_index all q) || (H (slice_index all p) (slice_index all a) && H (slice_index all b) (slice_index all q)))
      at_places p q inside within =
          named-ancestor all h' once_all p q inside within ∙ pair.ancestors p q
          ∙ (λ i. either p q (side p inside) (side q within) i || (either p a (side p inside) (side a low) i && either b q (side b below) (side q within) i))

      named_ends : (c d : ℕ) → (H c d || (H c (slice_index all a) && H (slice_index all b) d)) ≡ true → Stands all c × Stands all d
      named_ends c d holds = elim (or_cases (H c d) (H c (slice_index all a) && H (slice_index all b) d) holds) [
        | inl old ↦ above_ends c d old
        | inr new ↦ let both = and_parts (H c (slice_index all a)) (H (slice_index all b) d) new in
            ((above_ends c (slice_index all a) both.0).0, (above_ends (slice_index all b) d both.1).1)
      ]

      pub Joins-named : Joins (named xs f) (named ys g) (slice_index (xs ++ ys) a) (slice_index (xs ++ ys) b) (named (xs ++ ys) h')
      Joins-named = record {
        first_rates = named_first_rate;
        second_rates = named_second_rate;
        ancestors = by_places all (is_ancestor (named all h'))
            (λ c d. H c d || (H c (slice_index all a) && H (slice_index all b) d)) at_places (ancestor_ends all h' once_all) named_ends;
      }
