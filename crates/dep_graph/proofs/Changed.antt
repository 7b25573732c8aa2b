-- What each change of what is kept makes of the graph.
use Rattle.std.proofs.Common.{◌≡◌, ◌≢◌, ℕ, ◌<◌, ◌≤◌, Bool, true, false, cond, not, ◌&&◌, ◌||◌, ◌⊎◌, nat_eq, ℤ, List, length, set, slice_index_or, subst, inl}
use Rattle.std.proofs.Common.{inr, refl, sym, ap, ap₂, ◌∙◌, arith}
use Rattle.std.proofs.Common.{eq-eqb, ne_eqb, eqb-true, true≢false, Option, Some, None, MatchOption, unwrap_or, nat_lt, lt-ltb, ltb-true, lt_irrefl}
use Rattle.std.proofs.lemmas.Bool.{cases_eq, cases_Bool, and_parts, false_from_ne_true}
use Rattle.std.specs.List.{refill}
use Rattle.std.specs.Ordering.{nat_cmp}
use Rattle.std.specs.FinSet as fin
use Rattle.lists.proofs.Cases.{false_from_not, true_from_not, and_true, and_false, or_false}
use Rattle.graphs.specs.Closures.{Closure, is_member, rate_of, is_ancestor, ancestors_of, descendants_of, no_rate, AddsPlace, AddsPair, SetsFee, DropsPlace}
use Rattle.bitset.specs.Places.{IsWithin, IsLeast, first_places}
use Rattle.bitset.specs.Sets.{contains-insert, contains-remove, contains-union, contains-difference, contains-empty, contains-first_places}
use Rattle.fee_rate.specs.declared.rates.FeeRate.{FeeRate}
use Rattle.dep_graph.specs.declared.rows.Row.{Row}
use Rattle.dep_graph.specs.Rows.{row_at, graph_from, above, IsKept}
use Rattle.dep_graph.specs.Changes.{ChangesAt, PutsAt, gives_ancestors, gives_descendants, takes_ancestor, takes_descendant}
use Rattle.dep_graph.proofs.Kept.{Keeps, is_member-graph_from, rate_of-graph_from, is_ancestor-graph_from, kept_within, inside}
use Rattle.dep_graph.proofs.Kept.{is_member-kept, is_ancestor-kept, rate_of-kept, member_there, row_there, descendants_there, IsOrder-like}
use Rattle.dep_graph.proofs.Reading.{row_lent, written_lent, PutsAt-set}
use Rattle.dep_graph.proofs.Orders.{with_pair, with_place, on, IsOrder-pair, IsOrder-place, IsOrder-on}

-- ---- parts of rows

module _ {W : ℕ} {f : Row W → Row W} {places : fin.FinSet nat_cmp} {old new : List (Row W)} (c : ChangesAt f places old new) where
  -- a part that the change leaves
  same_part : {A : Type 0} (part : Row W → A) → ((row : Row W) → part (f row) ≡ part row) → (p : ℕ) → part (row_at new p) ≡ part (row_at old p)
  same_part part same p = ap part (c.rows p) ∙ either (fin.contains places p)
    where
      either : (b : Bool) → part (cond b (f (row_at old p)) (row_at old p)) ≡ part (row_at old p)
      either true = same (row_at old p)
      either false = refl

  -- what stands in a set after it
  changed : (part : Row W → fin.FinSet nat_cmp) (p q : ℕ) → fin.contains (part (row_at new p)) q
      ≡ cond (fin.contains places p) (fin.contains (part (f (row_at old p))) q) (fin.contains (part (row_at old p)) q)
  changed part p q = ap (λ row. fin.contains (part row) q) (c.rows p) ∙ either (fin.contains places p)
    where
      either : (b : Bool) → fin.contains (part (cond b (f (row_at old p)) (row_at old p))) q
          ≡ cond b (fin.contains (part (f (row_at old p))) q) (fin.contains (part (row_at old p)) q)
      either true = refl
      either false = refl

pub room_put : {W n place : ℕ} {row : Row W} {old new : List (Row W)} → PutsAt place row old new → length old ≤ n → place < n → length new ≤ n
room_put {W} {n} {place} {row} {old} {new} puts room low = elim puts.most as (λ _. length new ≤ n) [ inl e ↦ omega arith | inr e ↦ omega arith ]

-- the ancestors of d, with those that a pair gives it
pair_up : (md ud cd ap : Bool) → (cd ≡ true → md ≡ true) → (md && (cond cd (ud || ap) ud)) ≡ ((md && ud) || (ap && cd))
pair_up true true true true h = refl
pair_up true true true false h = refl
pair_up true true false true h = refl
pair_up true true false false h = refl
pair_up true false true true h = refl
pair_up true false true false h = refl
pair_up true false false true h = refl
pair_up true false false false h = refl
pair_up false ud true ap h = absurd (true≢false (sym (h refl)))
pair_up false ud false true h = refl
pair_up false ud false false h = refl

pair_down : (da ap cd : Bool) → cond ap (da || cd) da ≡ (da || (ap && cd))
pair_down true true cd = refl
pair_down true false cd = refl
pair_down false true cd = refl
pair_down false false cd = refl

module _ {W n : ℕ} {members : fin.FinSet nat_cmp} {rows : List (Row W)} {g : Closure} (k : Keeps n members rows g) where
  -- ---- another fee

  module _ (place : ℕ) (place_in : is_member g place ≡ true) (fee : ℤ) {row : Row W} {rows' : List (Row W)} (puts : PutsAt place row rows rows')
      (row_is : row ≡ record (row_at rows place) { rate = record { fee = fee; size = (row_at rows place).rate.size } }) where
    same_set : (part : Row W → fin.FinSet nat_cmp) → part row ≡ part (row_at rows place) → (p : ℕ) → part (row_at rows' p) ≡ part (row_at rows p)
    same_set part same p = elim (cases_eq p place) as (λ _. part (row_at rows' p) ≡ part (row_at rows p)) [
      | inl e ↦ ap (λ q. part (row_at rows' q)) e ∙ ap part puts.here ∙ same ∙ ap (λ q. part (row_at rows q)) (sym e)
      | inr e ↦ ap part (puts.others p e)
    ]

    above-fee : (a d : ℕ) → above members rows' a d ≡ above members rows a d
    above-fee a d = ap (λ s. fin.contains members d && fin.contains s a) (same_set (λ r. r.ancestors) (ap (λ r. r.ancestors) row_is) d)

    pub fee_keeps : IsKept n members rows'
    fee_keeps = record {
      room = room_put puts k.kept.room (inside k place (member_there k place place_in));
      there = λ p e. let low : p < length rows = k.kept.there p e in omega (arith, puts.long);
      order = IsOrder-like (fin.contains members) (fin.contains members) (above members rows) (above members rows') (λ p. refl) above-fee k.kept.order;
      mirrored = λ a d e.
          ap (λ s. fin.contains s d) (same_set (λ r. r.descendants) (ap (λ r. r.descendants) row_is) a)
          ∙ k.kept.mirrored a d e ∙ sym (above-fee a d);
    }

    rate-there : rate_of g place ≡ (row_at rows place).rate
    rate-there = rate_of-kept k place ∙ ap (λ b. cond b (row_at rows place).rate no_rate) (member_there k place place_in)

    pub fee_is : SetsFee g (graph_from n members rows') place fee
    fee_is = record {
      members = λ p. is_member-graph_from n members rows' (inside k) p ∙ sym (is_member-kept k p);
      rate_is =
          rate_of-graph_from n members rows' (inside k) place
          ∙ ap (λ b. cond b (row_at rows' place).rate no_rate) (member_there k place place_in)
          ∙ ap (λ r. r.rate) (puts.here ∙ row_is) ∙ ap (λ r. record { fee = fee; size = r.size }) (sym rate-there);
      rates = λ p ne.
          rate_of-graph_from n members rows' (inside k) p
          ∙ ap (λ r. cond (fin.contains members p) r.rate no_rate) (puts.others p ne) ∙ sym (rate_of-kept k p);
      ancestors = λ a d. is_ancestor-graph_from n members rows' (inside k) a d ∙ above-fee a d ∙ sym (is_ancestor-kept k a d);
    }

  -- the fee is written in a slice that is the list of rows
  module _ (place : ℕ) (place_in : is_member g place ≡ true) (fee : ℤ) (slice : List (Row W)) (same : slice ≡ rows)
      (row : Row W) (read : row ≡ slice_index_or slice place row) where
    abbrev fee_written : Row W
    fee_written = record (slice_index_or slice place row) { rate = record { fee = fee; size = (slice_index_or slice place row).rate.size } }

    written_is : fee_written ≡ record (row_at rows place) { rate = record { fee = fee; size = (row_at rows place).rate.size } }
    written_is =
        ap (λ (r : Row W). record r { rate = record { fee = fee; size = r.rate.size } })
        (sym read ∙ row_lent slice rows place row same read (row_there k place place_in))

    puts_fee : PutsAt place fee_written rows (set rows place fee_written)
    puts_fee = PutsAt-set rows place fee_written (row_there k place place_in)

    same_rows : set rows place fee_written ≡ refill (length rows) rows (set slice place fee_written)
    same_rows = sym (written_lent slice rows place fee_written same (row_there k place place_in))

    pub fee_written_keeps : IsKept n members (refill (length rows) rows (set slice place fee_written))
    fee_written_keeps = subst (IsKept n members) same_rows (fee_keeps place place_in fee puts_fee written_is)

    pub fee_written_is : SetsFee g (graph_from n members (refill (length rows) rows (set slice place fee_written))) place fee
    fee_written_is = subst (λ xs. SetsFee g (graph_from n members xs) place fee) same_rows (fee_is place place_in fee puts_fee written_is)

  -- ---- one more pair

  module _ (parent child : ℕ) (parent_in : is_member g parent ≡ true) (child_in : is_member g child ≡ true) (no_cycle : is_ancestor g child parent ≡ false)
      {ups downs : fin.FinSet nat_cmp} (ups_are : ups ≡ ancestors_of g parent) (downs_are : downs ≡ descendants_of g child)
      {mid rows' : List (Row W)} (first : ChangesAt (gives_ancestors ups) downs rows mid) (second : ChangesAt (gives_descendants downs) ups mid rows') where
    below_child : (d : ℕ) → fin.contains downs d ≡ above members rows child d
    below_child d = ap (λ s. fin.contains s d) (downs_are ∙ sym (descendants_there k child child_in)) ∙ k.kept.mirrored child d (member_there k child child_in)

    above_parent : (a : ℕ) → fin.contains ups a ≡ above members rows a parent
    above_parent a = ap (λ s. fin.contains s a) ups_are ∙ is_ancestor-kept k a parent

    above' : (a d : ℕ) → above members rows' a d ≡ with_pair (above members rows) parent child a d
    above' a d =
        ap (λ b. fin.contains members d && b)
        (ap (λ s. fin.contains s a) (same_part second (λ r. r.ancestors) (λ r. refl) d)
        ∙ changed first (λ r. r.ancestors) d a
        ∙ ap (λ b. cond (fin.contains downs d) b (fin.contains (row_at rows d).ancestors a)) (contains-union (row_at rows d).ancestors ups a)
        ∙ ap₂ (λ b c. cond b (fin.contains (row_at rows d).ancestors a || c) (fin.contains (row_at rows d).ancestors a)) (below_child d) (above_parent a))
        ∙ pair_up (fin.contains members d) (fin.contains (row_at rows d).ancestors a) (above members rows child d) (above members rows a parent)
        (λ e. (and_parts (fin.contains members d) (fin.contains (row_at rows d).ancestors child) e).0)

    mirrored' : (a d : ℕ) → fin.contains members a ≡ true → fin.contains (row_at rows' a).descendants d ≡ above members rows' a d
    mirrored' a d e =
        changed second (λ r. r.descendants) a d
        ∙ ap (λ s. cond (fin.contains ups a) (fin.contains (fin.union s downs) d) (fin.contains s d)) (same_part first (λ r. r.descendants) (λ r. refl) a)
        ∙ ap (λ b. cond (fin.contains ups a) b (fin.contains (row_at rows a).descendants d)) (contains-union (row_at rows a).descendants downs d)
        ∙ ap₂ (λ b c. cond b (fin.contains (row_at rows a).descendants d || c) (fin.contains (row_at rows a).descendants d)) (above_parent a) (below_child d)
        ∙ pair_down (fin.contains (row_at rows a).descendants d) (above members rows a parent) (above members rows child d)
        ∙ ap (λ b. b || (above members rows a parent && above members rows child d)) (k.kept.mirrored a d e)
        ∙ sym (above' a d)

    pub pair_keeps : IsKept n members rows'
    pair_keeps = record {
      room = omega (arith, k.kept.room, first.long, second.long);
      there = λ p e. let low : p < length rows = k.kept.there p e in omega (arith, first.long, second.long);
      order = IsOrder-like (fin.contains members) (fin.contains members) (with_pair (above members rows) parent child) (above members rows') (λ p. refl) above'
          (IsOrder-pair (fin.contains members) (above members rows) parent child k.kept.order (sym (is_ancestor-kept k child parent) ∙ no_cycle));
      mirrored = mirrored';
    }

    same_rate : (p : ℕ) → (row_at rows' p).rate ≡ (row_at rows p).rate
    same_rate p = same_part second (λ r. r.rate) (λ r. refl) p ∙ same_part first (λ r. r.rate) (λ r. refl) p

    pub pair_is : AddsPair g (graph_from n members rows') parent child
    pair_is = record {
      members = λ p. is_member-graph_from n members rows' (inside k) p ∙ sym (is_member-kept k p);
      rates = λ p.
          rate_of-graph_from n members rows' (inside k) p
          ∙ ap (λ r. cond (fin.contains members p) r no_rate) (same_rate p) ∙ sym (rate_of-kept k p);
      ancestors = λ a d.
          is_ancestor-graph_from n members rows' (inside k) a d ∙ above' a d
          ∙ ap₂ (λ x y. x || y) (sym (is_ancestor-kept k a d))
          (ap₂ (λ x y. x && y) (sym (is_ancestor-kept k a parent)) (sym (is_ancestor-kept k child d)));
    }

  -- ---- one member fewer

  module _ (place : ℕ) (place_in : is_member g place ≡ true)
      {ups downs : fin.FinSet nat_cmp} (ups_are : ups ≡ ancestors_of g place) (downs_are : downs ≡ descendants_of g place)
      {mid rows' : List (Row W)} (first : ChangesAt (takes_ancestor place) downs rows mid) (second : ChangesAt (takes_descendant place) ups mid rows')
      {fewer : fin.FinSet nat_cmp} (fewer_are : fewer ≡ fin.remove members place) where
    abbrev stays : ℕ → Bool
    stays p = not (nat_eq p place)

    below_place : (d : ℕ) → fin.contains downs d ≡ above members rows place d
    below_place d = ap (λ s. fin.contains s d) (downs_are ∙ sym (descendants_there k place place_in)) ∙ k.kept.mirrored place d (member_there k place place_in)

    above_place : (a : ℕ) → fin.contains ups a ≡ above members rows a place
    above_place a = ap (λ s. fin.contains s a) ups_are ∙ is_ancestor-kept k a place

    contains-fewer : (p : ℕ) → fin.contains fewer p ≡ (stays p && fin.contains members p)
    contains-fewer p = ap (λ s. fin.contains s p) fewer_are ∙ contains-remove members place p

    -- in the row of d, a is gone where it is the place
    drop_up : (sd md ud sa pd : Bool) → (sa ≡ false → pd ≡ (md && ud)) → ((sd && md) && cond pd (sa && ud) ud) ≡ (sa && (sd && (md && ud)))
    drop_up false md ud true pd e = refl
    drop_up false md ud false pd e = refl
    drop_up true false ud true pd e = refl
    drop_up true false ud false pd e = refl
    drop_up true true ud true true e = refl
    drop_up true true ud true false e = refl
    drop_up true true ud false true e = refl
    drop_up true true ud false false e = sym (e refl)

    is_place : (p : ℕ) → stays p ≡ false → p ≡ place
    is_place p e = eqb-true p place (true_from_not (nat_eq p place) e)

    above'' : (a d : ℕ) → above fewer rows' a d ≡ on stays (above members rows) a d
    above'' a d =
        ap₂ (λ x y. x && y) (contains-fewer d)
        (ap (λ s. fin.contains s a) (same_part second (λ r. r.ancestors) (λ r. refl) d)
        ∙ changed first (λ r. r.ancestors) d a
        ∙ ap (λ b. cond (fin.contains downs d) b (fin.contains (row_at rows d).ancestors a)) (contains-remove (row_at rows d).ancestors place a)
        ∙ ap (λ b. cond b (stays a && fin.contains (row_at rows d).ancestors a) (fin.contains (row_at rows d).ancestors a)) (below_place d))
        ∙ drop_up (stays d) (fin.contains members d) (fin.contains (row_at rows d).ancestors a) (stays a) (above members rows place d)
        (λ e. ap (λ q. above members rows q d) (sym (is_place a e)))

    -- the same downward
    drop_down : (sa sd ad pd : Bool) → sa ≡ true → (sd ≡ false → pd ≡ ad) → cond pd (sd && ad) ad ≡ (sa && (sd && ad))
    drop_down false sd ad pd e f = absurd (true≢false (sym e))
    drop_down true true ad true e f = refl
    drop_down true true ad false e f = refl
    drop_down true false ad true e f = refl
    drop_down true false ad false e f = sym (f refl)

    mirrored'' : (a d : ℕ) → fin.contains fewer a ≡ true → fin.contains (row_at rows' a).descendants d ≡ above fewer rows' a d
    mirrored'' a d e =
        let both : (stays a ≡ true) × (fin.contains members a ≡ true) = and_parts (stays a) (fin.contains members a) (sym (contains-fewer a) ∙ e) in
        changed second (λ r. r.descendants) a d
        ∙ ap (λ s. cond (fin.contains ups a) (fin.contains (fin.remove s place) d) (fin.contains s d)) (same_part first (λ r. r.descendants) (λ r. refl) a)
        ∙ ap (λ b. cond (fin.contains ups a) b (fin.contains (row_at rows a).descendants d)) (contains-remove (row_at rows a).descendants place d)
        ∙ ap₂ (λ b c. cond b (stays d && c) c) (above_place a) (k.kept.mirrored a d both.1)
        ∙ drop_down (stays a) (stays d) (above members rows a d) (above members rows a place) both.0
        (λ f. ap (λ q. above members rows a q) (sym (is_place d f)))
        ∙ sym (above'' a d)

    was : (p : ℕ) → fin.contains fewer p ≡ true → fin.contains members p ≡ true
    was p e = (and_parts (stays p) (fin.contains members p) (sym (contains-fewer p) ∙ e)).1

    pub drop_keeps : IsKept n fewer rows'
    drop_keeps = record {
      room = omega (arith, k.kept.room, first.long, second.long);
      there = λ p e. let low : p < length rows = k.kept.there p (was p e) in omega (arith, first.long, second.long);
      order = IsOrder-like (λ q. stays q && fin.contains members q) (fin.contains fewer) (on stays (above members rows))
          (above fewer rows') contains-fewer above''
          (IsOrder-on (fin.contains members) stays (above members rows) k.kept.order);
      mirrored = mirrored'';
    }

    within'' : IsWithin n fewer
    within'' p e = inside k p (was p e)

    same_rate'' : (p : ℕ) → (row_at rows' p).rate ≡ (row_at rows p).rate
    same_rate'' p = same_part second (λ r. r.rate) (λ r. refl) p ∙ same_part first (λ r. r.rate) (λ r. refl) p

    pub drop_is : DropsPlace g (graph_from n fewer rows') place
    drop_is = record {
      members = λ p. is_member-graph_from n fewer rows' within'' p ∙ contains-fewer p ∙ ap (λ b. stays p && b) (sym (is_member-kept k p));
      rates = λ p ne.
          rate_of-graph_from n fewer rows' within'' p
          ∙ ap₂ (λ b r. cond b r no_rate) (contains-fewer p ∙ ap (λ b. not b && fin.contains members p) (ne_eqb p place ne)) (same_rate'' p)
          ∙ sym (rate_of-kept k p);
      ancestors = λ a d.
          is_ancestor-graph_from n fewer rows' within'' a d ∙ above'' a d ∙ ap (λ b. stays a && (stays d && b)) (sym (is_ancestor-kept k a d));
    }

  -- ---- one more member

  module _ (place : ℕ) (rate : FeeRate) (absent : fin.contains members place ≡ false) (first_free : (p : ℕ) → p < place → fin.contains members p ≡ true)
      (low : place < n) {itself : fin.FinSet nat_cmp} (itself_is : (q : ℕ) → fin.contains itself q ≡ nat_eq q place)
      {rows' : List (Row W)} (puts : PutsAt place (record { rate = rate; ancestors = itself; descendants = itself }) rows rows')
      {more : fin.FinSet nat_cmp} (more_are : more ≡ fin.insert members place) where
    contains-more : (p : ℕ) → fin.contains more p ≡ (nat_eq p place || fin.contains members p)
    contains-more p = ap (λ s. fin.contains s p) more_are ∙ contains-insert members place p

    at_place : (p : ℕ) → p ≡ place → fin.contains more p ≡ true
    at_place p e = contains-more p ∙ ap (λ b. b || fin.contains members p) (eq-eqb p place e)

    elsewhere : (p : ℕ) → p ≢ place → fin.contains more p ≡ fin.contains members p
    elsewhere p ne = contains-more p ∙ ap (λ b. b || fin.contains members p) (ne_eqb p place ne)

    not_above : (a d : ℕ) → (a ≡ place) ⊎ (d ≡ place) → above members rows a d ≡ false
    not_above a d e = false_from_ne_true _ (λ t.
        let both : (fin.contains members a ≡ true) × (fin.contains members d ≡ true) = k.kept.order.among a d t in
        true≢false (elim e as (λ _. true ≡ false) [
          | inl f ↦ sym both.0 ∙ ap (fin.contains members) f ∙ absent
          | inr f ↦ sym both.1 ∙ ap (fin.contains members) f ∙ absent
        ]))

    above₃ : (a d : ℕ) → above more rows' a d ≡ with_place (above members rows) place a d
    above₃ a d = elim (cases_eq d place) as (λ _. above more rows' a d ≡ with_place (above members rows) place a d) [
      | inl same ↦
          ap₂ (λ x y. x && y) (at_place d same)
          (ap (λ q. fin.contains (row_at rows' q).ancestors a) same ∙ ap (λ r. fin.contains r.ancestors a) puts.here ∙ itself_is a)
          ∙ sym (ap₂ (λ x y. (nat_eq a place && x) || y) (eq-eqb d place same) (not_above a d (inr same)) ∙ or_false (nat_eq a place && true)
          ∙ and_true (nat_eq a place))
      | inr other ↦
          ap₂ (λ x y. x && y) (elsewhere d other) (ap (λ r. fin.contains r.ancestors a) (puts.others d other))
          ∙ sym (ap (λ x. (nat_eq a place && x) || above members rows a d) (ne_eqb d place other)
          ∙ ap (λ x. x || above members rows a d) (and_false (nat_eq a place)))
    ]

    mirrored₃ : (a d : ℕ) → fin.contains more a ≡ true → fin.contains (row_at rows' a).descendants d ≡ above more rows' a d
    mirrored₃ a d e = elim (cases_eq a place) as (λ _. fin.contains (row_at rows' a).descendants d ≡ above more rows' a d) [
      | inl same ↦
          ap (λ q. fin.contains (row_at rows' q).descendants d) same ∙ ap (λ r. fin.contains r.descendants d) puts.here ∙ itself_is d
          ∙ sym (above₃ a d ∙ ap₂ (λ x y. (x && nat_eq d place) || y) (eq-eqb a place same) (not_above a d (inl same)) ∙ or_false (nat_eq d place))
      | inr other ↦
          ap (λ r. fin.contains r.descendants d) (puts.others a other) ∙ k.kept.mirrored a d (sym (elsewhere a other) ∙ e)
          ∙ sym (above₃ a d ∙ ap (λ x. (x && nat_eq d place) || above members rows a d) (ne_eqb a place other))
    ]

    pub place_keeps : IsKept n more rows'
    place_keeps = record {
      room = room_put puts k.kept.room low;
      there = λ p e. elim (cases_eq p place) as (λ _. p < length rows') [
        | inl same ↦ omega (arith, puts.there)
        | inr other ↦ let was : p < length rows = k.kept.there p (sym (elsewhere p other) ∙ e) in omega (arith, puts.long)
      ];
      order = IsOrder-like (λ q. nat_eq q place || fin.contains members q) (fin.contains more) (with_place (above members rows) place)
          (above more rows') contains-more
          above₃ (IsOrder-place (fin.contains members) (above members rows) place k.kept.order absent);
      mirrored = mirrored₃;
    }

    within₃ : IsWithin n more
    within₃ = kept_within n more rows' place_keeps

    pub place_is : AddsPlace g (graph_from n more rows') rate place
    place_is = record {
      free = is_member-kept k place ∙ absent;
      least = λ p e. is_member-kept k p ∙ first_free p e;
      members = λ p. is_member-graph_from n more rows' within₃ p ∙ contains-more p ∙ ap (λ b. nat_eq p place || b) (sym (is_member-kept k p));
      rate_is = rate_of-graph_from n more rows' within₃ place ∙ ap (λ b. cond b (row_at rows' place).rate no_rate) (at_place place refl)
          ∙ ap (λ r. r.rate) puts.here;
      rates = λ p ne.
          rate_of-graph_from n more rows' within₃ p
          ∙ ap₂ (λ b r. cond b r.rate no_rate) (elsewhere p ne) (puts.others p ne) ∙ sym (rate_of-kept k p);
      ancestors = λ a d.
          is_ancestor-graph_from n more rows' within₃ a d ∙ above₃ a d
          ∙ ap (λ b. (nat_eq a place && nat_eq d place) || b) (sym (is_ancestor-kept k a d));
    }

-- ---- the least place that is free

pub free_is : (used : ℕ) (members left : fin.FinSet nat_cmp) (r : Option ℕ) → left ≡ fin.difference (first_places used) members
    → MatchOption r (left ≡ fin.empty) (IsLeast left) → IsWithin used members
    → (fin.contains members (unwrap_or r used) ≡ false) × ((p : ℕ) → p < unwrap_or r used → fin.contains members p ≡ true) × (unwrap_or r used ≤ used)
free_is used members left None is none within = (
  false_from_ne_true _ (λ e. let low : used < used = within used e in lt_irrefl used low),
  λ p low. in_both p (sym (tells p ∙ ap (λ b. b && not (fin.contains members p)) (lt-ltb p used low)) ∙ ap (λ s. fin.contains s p) none ∙ contains-empty p),
  omega arith,
)
  where
    tells : (p : ℕ) → fin.contains left p ≡ (nat_lt p used && not (fin.contains members p))
    tells p = ap (λ s. fin.contains s p) is ∙ contains-difference (first_places used) members p
        ∙ ap (λ b. b && not (fin.contains members p)) (contains-first_places used p)

    in_both : (p : ℕ) → not (fin.contains members p) ≡ false → fin.contains members p ≡ true
    in_both p e = true_from_not (fin.contains members p) e
free_is used members left (Some q) is least within = (
  false_from_not (fin.contains members q) both.1,
  λ p low. elim (cases_Bool (fin.contains members p)) as (λ _. fin.contains members p ≡ true) [
    | inl e ↦ e
    | inr e ↦ absurd (let up : q ≤ p = least.below p (tells p ∙ ap₂ (λ a b. a && not b) (lt-ltb p used (omega (arith, here))) e) in omega arith)
  ],
  omega (arith, here),
)
  where
    tells : (p : ℕ) → fin.contains left p ≡ (nat_lt p used && not (fin.contains members p))
    tells p = ap (λ s. fin.contains s p) is ∙ contains-difference (first_places used) members p
        ∙ ap (λ b. b && not (fin.contains members p)) (contains-first_places used p)

    both : (nat_lt q used ≡ true) × (not (fin.contains members q) ≡ true)
    both = and_parts (nat_lt q used) (not (fin.contains members q)) (sym (tells q) ∙ least.member)

    here : q < used
    here = ltb-true q used both.0
