-- Two graphs side by side, with their places numbered anew.
use Rattle.std.proofs.Common.{◌≡◌, ℕ, ◌+◌, ◌-◌, ◌*◌, ◌^◌, ◌<◌, ◌≤◌, min, true, cond, ◌&&◌, ◌⊎◌, nat_lt, List, [], length, slice_index}
use Rattle.std.proofs.Common.{inl, inr, refl, sym, ap, ap₂, ◌∙◌, subst, subst₂, arith, lt-ltb, ltb-true}
use Rattle.std.proofs.lemmas.Bool.{cases_lt, and_parts, false_from_ne_true}
use Rattle.std.proofs.lemmas.List.Elements.{Contains-get_or}
use Rattle.std.specs.Ordering.{nat_cmp}
use Rattle.std.specs.FinSet as fin
use Rattle.lists.proofs.Cases.{same_test}
use Rattle.graphs.specs.Closures.{Closure, rate_of, is_ancestor, no_rate, IsOrder, IsMerged, IsPart}
use Rattle.lists.proofs.Rising.{rising_once}
use Rattle.lists.specs.Rising.{IsRising}
use Rattle.bitset.specs.Members.{len_bound}
use Rattle.bitset.specs.Places.{IsWithin, first_places, places}
use Rattle.bitset.specs.Sets.{IsRising-places, contains-first_places, places-Contains}
use Rattle.dep_graph.specs.declared.rows.Row.{Row}
use Rattle.dep_graph.specs.Rows.{row_at, graph_from, above, IsKept}
use Rattle.dep_graph.specs.Changes.{BothBecome, Copies, CopiesRows, IsRenumbered}
use Rattle.dep_graph.proofs.Reading.{few_rows}
use Rattle.dep_graph.proofs.Kept.{Keeps, is_member-graph_from, rate_of-graph_from, is_ancestor-graph_from, is_ancestor-kept, rate_of-kept, kept_within}

-- ---- places that are copied

-- some members of a graph, in rising order
pub record Chosen {W : ℕ} (n : ℕ) (members : fin.FinSet nat_cmp) (rows : List (Row W)) (g : Closure) (ps : List ℕ) : Type 0 where
  pub keeps : Keeps n members rows g
  pub among : (i : ℕ) → i < length ps → fin.contains members (slice_index ps i) ≡ true
  pub rising : IsRising ps

pub Chosen-places : {W n : ℕ} {members : fin.FinSet nat_cmp} {rows : List (Row W)} {g : Closure} → Keeps n members rows g → (s : fin.FinSet nat_cmp)
    → ((p : ℕ) → fin.contains s p ≡ true → fin.contains members p ≡ true) → Chosen n members rows g (places n s)
Chosen-places {W} {n} {members} {rows} {g} k s all = record {
  keeps = k;
  among = λ i low. all _ (places-Contains n s (slice_index (places n s) i) (Contains-get_or (places n s) i 0 low)).1;
  rising = IsRising-places n s;
}

pub Chosen-none : {W n : ℕ} {members : fin.FinSet nat_cmp} {rows : List (Row W)} {g : Closure} → Keeps n members rows g → Chosen n members rows g []
Chosen-none k = record { keeps = k; among = λ i low. absurd (omega arith); rising = tt }

pub Copies-none : {W : ℕ} (Made : ℕ → Row W → Type 0) (rows : List (Row W)) → Copies Made [] rows rows
Copies-none Made rows = record { long = omega arith; kept = λ p h. refl; made = λ i h. absurd (omega arith) }

-- ---- what two copies, one behind the other, leave

module _ {W : ℕ} (from from' : List (Row W)) (ps qs : List ℕ) (mid new : List (Row W)) (one : CopiesRows from ps [] mid)
    (two : CopiesRows from' qs mid new) where
  mid_long : length mid ≡ length ps
  mid_long = one.long ∙ omega arith

  both_long : length new ≡ length ps + length qs
  both_long = two.long ∙ ap (λ n. n + length qs) mid_long

  first_row : (j : ℕ) → j < length ps → BothBecome (IsRenumbered ps 0) (row_at from (slice_index ps j)) (row_at new j)
  first_row j low =
      subst (BothBecome (IsRenumbered ps 0) (row_at from (slice_index ps j))) (ap (row_at mid) zero_plus ∙ sym (two.kept j (omega (arith, mid_long))))
      (one.made j low)
    where
      zero_plus : length {A = Row W} [] + j ≡ j
      zero_plus = omega arith

  second_row : (j : ℕ) → j < length qs → BothBecome (IsRenumbered qs (length ps)) (row_at from' (slice_index qs j)) (row_at new (length ps + j))
  second_row j low =
      subst (λ k. BothBecome (IsRenumbered qs k) (row_at from' (slice_index qs j)) (row_at new (k + j))) mid_long (two.made j low)

-- a number of the first copy
from_zero : {ps : List ℕ} {s t : fin.FinSet nat_cmp} → IsRenumbered ps 0 s t → (i : ℕ) → i < length ps → fin.contains t i ≡ fin.contains s (slice_index ps i)
from_zero {ps} {s} {t} is i low = ap (fin.contains t) zero_plus ∙ is.here i low
  where
    zero_plus : i ≡ 0 + i
    zero_plus = omega arith

module _ {W n : ℕ} {m₁ : fin.FinSet nat_cmp} {rows₁ : List (Row W)} {g₁ : Closure} {ps : List ℕ} (one : Chosen n m₁ rows₁ g₁ ps)
    {m₂ : fin.FinSet nat_cmp} {rows₂ : List (Row W)} {g₂ : Closure} {qs : List ℕ} (two : Chosen n m₂ rows₂ g₂ qs) (room : length ps + length qs ≤ n)
    {mid rows : List (Row W)} (copies₁ : CopiesRows rows₁ ps [] mid) (copies₂ : CopiesRows rows₂ qs mid rows)
    {m : fin.FinSet nat_cmp} (m_is : m ≡ first_places (length ps + length qs)) where
  abbrev end : ℕ
  end = length ps + length qs

  contains-m : (k : ℕ) → fin.contains m k ≡ nat_lt k end
  contains-m k = ap (λ s. fin.contains s k) m_is ∙ contains-first_places end k

  in_m : (k : ℕ) → k < end → fin.contains m k ≡ true
  in_m k low = contains-m k ∙ lt-ltb k end low

  m_low : (k : ℕ) → fin.contains m k ≡ true → k < end
  m_low k e = ltb-true k end (sym (contains-m k) ∙ e)

  -- a place is one of the first or one of the second
  side : (k : ℕ) → k < end → (k < length ps) ⊎ ((j : ℕ) × (j < length qs) × (k ≡ length ps + j))
  side k low = elim (cases_lt k (length ps)) as (λ _. (k < length ps) ⊎ ((j : ℕ) × (j < length qs) × (k ≡ length ps + j))) [
    | inl h ↦ inl h
    | inr h ↦ inr (k - length ps, omega arith, omega arith)
  ]

  up₁ : (j : ℕ) → j < length ps → IsRenumbered ps 0 (row_at rows₁ (slice_index ps j)).ancestors (row_at rows j).ancestors
  up₁ j low = (first_row rows₁ rows₂ ps qs mid rows copies₁ copies₂ j low).ancestors

  up₂ : (j : ℕ) → j < length qs → IsRenumbered qs (length ps) (row_at rows₂ (slice_index qs j)).ancestors (row_at rows (length ps + j)).ancestors
  up₂ j low = (second_row rows₁ rows₂ ps qs mid rows copies₁ copies₂ j low).ancestors

  down₁ : (j : ℕ) → j < length ps → IsRenumbered ps 0 (row_at rows₁ (slice_index ps j)).descendants (row_at rows j).descendants
  down₁ j low = (first_row rows₁ rows₂ ps qs mid rows copies₁ copies₂ j low).descendants

  down₂ : (j : ℕ) → j < length qs → IsRenumbered qs (length ps) (row_at rows₂ (slice_index qs j)).descendants (row_at rows (length ps + j)).descendants
  down₂ j low = (second_row rows₁ rows₂ ps qs mid rows copies₁ copies₂ j low).descendants

  R₁ : (i j : ℕ) → i < length ps → j < length ps → above m rows i j ≡ above m₁ rows₁ (slice_index ps i) (slice_index ps j)
  R₁ i j low low' = ap₂ (λ x y. x && y) (in_m j (omega arith) ∙ sym (one.among j low')) (from_zero (up₁ j low') i low)

  R₂ : (i j : ℕ) → i < length qs → j < length qs → above m rows (length ps + i) (length ps + j) ≡ above m₂ rows₂ (slice_index qs i) (slice_index qs j)
  R₂ i j low low' = ap₂ (λ x y. x && y) (in_m (length ps + j) (omega arith) ∙ sym (two.among j low')) ((up₂ j low').here i low)

  record Related (i j : ℕ) : Type 0 where
    low : (i < length ps) × (j < length ps)
    is : above m₁ rows₁ (slice_index ps i) (slice_index ps j) ≡ true

  record Related' (i j : ℕ) : Type 0 where
    a : ℕ
    b : ℕ
    low : (a < length qs) × (b < length qs)
    at : (i ≡ length ps + a) × (j ≡ length ps + b)
    is : above m₂ rows₂ (slice_index qs a) (slice_index qs b) ≡ true

  -- what is related is related in one of the two
  split : (i j : ℕ) → above m rows i j ≡ true → Related i j ⊎ Related' i j
  split i j e =
      let both : (fin.contains m j ≡ true) × (fin.contains (row_at rows j).ancestors i ≡ true) = and_parts (fin.contains m j)
      (fin.contains (row_at rows j).ancestors i) e in
      elim (side j (m_low j both.0)) as (λ _. Related i j ⊎ Related' i j) [
        | inl low ↦
            let low' : i < length ps = omega (arith, ((up₁ j low).only i both.1).1) in
            inl (record { low = (low', low); is = sym (R₁ i j low' low) ∙ e })
        | inr (b, low, at) ↦
            let there : (length ps ≤ i) × (i < end) = (up₂ b low).only i (ap (λ q. fin.contains (row_at rows q).ancestors i) (sym at) ∙ both.1) in
            let at' : i ≡ length ps + (i - length ps) = omega arith in
            let low' : i - length ps < length qs = omega arith in
            inr (record {
              a = i - length ps;
              b = b;
              low = (low', low);
              at = (at', at);
              is = sym (R₂ (i - length ps) b low' low)
                  ∙ sym (ap₂ (above m rows) at' at) ∙ e;
            })
      ]

  joined_order : IsOrder (fin.contains m) (above m rows)
  joined_order = record {
    among = λ i j e. elim (split i j e) as (λ _. (fin.contains m i ≡ true) × (fin.contains m j ≡ true)) [
      | inl s ↦ (in_m i (omega (arith, s.low.0)), in_m j (omega (arith, s.low.1)))
      | inr s ↦ (in_m i (omega (arith, s.low.0, s.at.0)), in_m j (omega (arith, s.low.1, s.at.1)))
    ];
    reflexive = λ k e. elim (side k (m_low k e)) as (λ _. above m rows k k ≡ true) [
      | inl low ↦ R₁ k k low low ∙ one.keeps.kept.order.reflexive (slice_index ps k) (one.among k low)
      | inr (j, low, at) ↦ ap₂ (above m rows) at at ∙ R₂ j j low low ∙ two.keeps.kept.order.reflexive (slice_index qs j) (two.among j low)
    ];
    transitive = λ i j k e f. chain i j k (split i j e) (split j k f);
    antisymmetric = λ i j e f. apart i j (split i j e) (split j i f);
  }
    where
      chain : (i j k : ℕ) → Related i j ⊎ Related' i j → Related j k ⊎ Related' j k → above m rows i k ≡ true
      chain i j k (inl s) (inl t) =
          R₁ i k s.low.0 t.low.1 ∙ one.keeps.kept.order.transitive (slice_index ps i) (slice_index ps j) (slice_index ps k) s.is t.is
      chain i j k (inl s) (inr t) = absurd (omega (arith, s.low.1, t.at.0))
      chain i j k (inr s) (inl t) = absurd (omega (arith, s.at.1, t.low.0))
      chain i j k (inr s) (inr t) =
          let same : t.a ≡ s.b = omega (arith, s.at.1, t.at.0) in
          ap₂ (above m rows) s.at.0 t.at.1 ∙ R₂ s.a t.b s.low.0 t.low.1
          ∙ two.keeps.kept.order.transitive (slice_index qs s.a) (slice_index qs s.b) (slice_index qs t.b) s.is
          (subst (λ x. above m₂ rows₂ (slice_index qs x) (slice_index qs t.b) ≡ true) same t.is)

      apart : (i j : ℕ) → Related i j ⊎ Related' i j → Related j i ⊎ Related' j i → i ≡ j
      apart i j (inl s) (inl t) =
          rising_once ps one.rising i j s.low.0 s.low.1 (one.keeps.kept.order.antisymmetric (slice_index ps i) (slice_index ps j) s.is t.is)
      apart i j (inl s) (inr t) = absurd (omega (arith, s.low.1, t.at.0))
      apart i j (inr s) (inl t) = absurd (omega (arith, s.at.1, t.low.0))
      apart i j (inr s) (inr t) =
          let first : t.a ≡ s.b = omega (arith, s.at.1, t.at.0) in
          let second : t.b ≡ s.a = omega (arith, s.at.0, t.at.1) in
          let same : s.a ≡ s.b = rising_once qs two.rising s.a s.b s.low.0 s.low.1
          (two.keeps.kept.order.antisymmetric (slice_index qs s.a) (slice_index qs s.b) s.is
          (subst₂ (λ x y. above m₂ rows₂ (slice_index qs x) (slice_index qs y) ≡ true) first second t.is)) in
          omega (arith, s.at.0, s.at.1)

  -- the sets of descendants say the same
  joined_mirrored : (a k : ℕ) → fin.contains m a ≡ true → fin.contains (row_at rows a).descendants k ≡ above m rows a k
  joined_mirrored a k e = same_test _ _ (downward (side a (m_low a e))) (λ f. upward (split a k f))
    where
      downward : (a < length ps) ⊎ ((j : ℕ) × (j < length qs) × (a ≡ length ps + j)) → fin.contains (row_at rows a).descendants k ≡ true
          → above m rows a k ≡ true
      downward (inl low) f =
          let low' : k < length ps = omega (arith, ((down₁ a low).only k f).1) in
          R₁ a k low low' ∙ sym (one.keeps.kept.mirrored (slice_index ps a) (slice_index ps k) (one.among a low)) ∙ sym (from_zero (down₁ a low) k low') ∙ f
      downward (inr (j, low, at)) f =
          let f' : fin.contains (row_at rows (length ps + j)).descendants k ≡ true = ap (λ q. fin.contains (row_at rows q).descendants k) (sym at) ∙ f in
          let there : (length ps ≤ k) × (k < end) = (down₂ j low).only k f' in
          let at' : k ≡ length ps + (k - length ps) = omega arith in
          let low' : k - length ps < length qs = omega arith in
          ap₂ (above m rows) at at' ∙ R₂ j (k - length ps) low low'
          ∙ sym (two.keeps.kept.mirrored (slice_index qs j) (slice_index qs (k - length ps)) (two.among j low)) ∙ sym ((down₂ j low).here (k - length ps) low')
          ∙ ap (fin.contains (row_at rows (length ps + j)).descendants) (sym at') ∙ f'

      upward : Related a k ⊎ Related' a k → fin.contains (row_at rows a).descendants k ≡ true
      upward (inl s) = from_zero (down₁ a s.low.0) k s.low.1 ∙ one.keeps.kept.mirrored (slice_index ps a) (slice_index ps k) (one.among a s.low.0) ∙ s.is
      upward (inr s) =
          ap₂ (λ x y. fin.contains (row_at rows x).descendants y) s.at.0 s.at.1
          ∙ (down₂ s.a s.low.0).here s.b s.low.1 ∙ two.keeps.kept.mirrored (slice_index qs s.a) (slice_index qs s.b) (two.among s.a s.low.0) ∙ s.is

  pub joined_keeps : IsKept n m rows
  joined_keeps = record {
    room = omega (arith, both_long rows₁ rows₂ ps qs mid rows copies₁ copies₂);
    there = λ p e. let low : p < end = m_low p e in omega (arith, both_long rows₁ rows₂ ps qs mid rows copies₁ copies₂);
    order = joined_order;
    mirrored = joined_mirrored;
  }

  within : IsWithin n m
  within = kept_within n m rows joined_keeps

  pub joined_is : IsMerged g₁ g₂ ps qs (graph_from n m rows)
  joined_is = record {
    members = λ k. is_member-graph_from n m rows within k ∙ contains-m k;
    first = record {
      rates = λ i low.
          ap (rate_of (graph_from n m rows)) (zero_plus i) ∙ rate_of-graph_from n m rows within i
          ∙ ap₂ (λ b r. cond b r no_rate) (in_m i (omega arith)) (first_row rows₁ rows₂ ps qs mid rows copies₁ copies₂ i low).rate
          ∙ sym (rate_of-kept one.keeps (slice_index ps i) ∙ ap (λ b. cond b (row_at rows₁ (slice_index ps i)).rate no_rate) (one.among i low));
      ancestors = λ i j low low'.
          ap₂ (is_ancestor (graph_from n m rows)) (zero_plus i) (zero_plus j) ∙ is_ancestor-graph_from n m rows within i j ∙ R₁ i j low low'
          ∙ sym (is_ancestor-kept one.keeps (slice_index ps i) (slice_index ps j));
    };
    second = record {
      rates = λ i low.
          rate_of-graph_from n m rows within (length ps + i)
          ∙ ap₂ (λ b r. cond b r no_rate) (in_m (length ps + i) (omega arith)) (second_row rows₁ rows₂ ps qs mid rows copies₁ copies₂ i low).rate
          ∙ sym (rate_of-kept two.keeps (slice_index qs i) ∙ ap (λ b. cond b (row_at rows₂ (slice_index qs i)).rate no_rate) (two.among i low));
      ancestors = λ i j low low'.
          is_ancestor-graph_from n m rows within (length ps + i) (length ps + j) ∙ R₂ i j low low'
          ∙ sym (is_ancestor-kept two.keeps (slice_index qs i) (slice_index qs j));
    };
    apart = λ i j low high. (
      is_ancestor-graph_from n m rows within i j ∙ false_from_ne_true _ (λ e. never i j low high (split i j e)),
      is_ancestor-graph_from n m rows within j i ∙ false_from_ne_true _ (λ e. never' i j low high (split j i e)),
    );
  }
    where
      zero_plus : (i : ℕ) → 0 + i ≡ i
      zero_plus i = omega arith

      never : (i j : ℕ) → i < length ps → length ps ≤ j → Related i j ⊎ Related' i j → ⊥
      never i j low high (inl s) = absurd (omega (arith, s.low.1))
      never i j low high (inr s) = absurd (omega (arith, s.at.0))

      never' : (i j : ℕ) → i < length ps → length ps ≤ j → Related j i ⊎ Related' j i → ⊥
      never' i j low high (inl s) = absurd (omega (arith, s.low.0))
      never' i j low high (inr s) = absurd (omega (arith, s.at.1))

-- side by side with nothing
pub part_of_merged : (f g : Closure) (ps : List ℕ) (h : Closure) → IsMerged f g ps [] h → IsPart f ps h
part_of_merged f g ps h is = record { members = λ k. is.members k ∙ ap (nat_lt k) plus_none; copy = is.first }
  where
    plus_none : length ps + length {A = ℕ} [] ≡ length ps
    plus_none = omega arith

-- what is among the members has rows
pub sub_within : {W n : ℕ} {members : fin.FinSet nat_cmp} {rows : List (Row W)} {g : Closure} → Keeps n members rows g → (s : fin.FinSet nat_cmp)
    → ((p : ℕ) → fin.contains s p ≡ true → fin.contains members p ≡ true) → IsWithin (length rows) s
sub_within k s all p e = k.kept.there p (all p e)

-- what was counted of them, where the rows lie in a slice
pub count_is : {W n : ℕ} {members : fin.FinSet nat_cmp} {rows : List (Row W)} {g : Closure} → Keeps n members rows g → (s : fin.FinSet nat_cmp)
    → ((p : ℕ) → fin.contains s p ≡ true → fin.contains members p ≡ true) → (slice : List (Row W)) → slice ≡ rows
    → (size : ℕ) → length slice * size < 2 ^ 63 → 16 ≤ size → (count : ℕ) → count ≡ min (fin.len s) (2 ^ 64 - 1) → (count ≡ fin.len s) × (count < 2 ^ 59)
count_is {W} {n} {members} {rows} k s all slice same size bytes some count is =
    let few : length slice < 2 ^ 59 = few_rows (length slice) size some bytes in
    let bound : fin.len s ≤ length rows = len_bound (length rows) s (sub_within k s all) in
    (omega (arith, ap length same), omega (arith, ap length same))

-- copies of a slice that is a list of rows
pub copies_lent : {W : ℕ} (ps : List ℕ) {slice rows old old' new : List (Row W)} → slice ≡ rows → old ≡ old' → CopiesRows slice ps old new
    → CopiesRows rows ps old' new
copies_lent ps {slice} {rows} {old} {old'} {new} same none copies = subst₂ (λ xs ys. CopiesRows xs ps ys new) same none copies
