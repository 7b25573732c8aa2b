-- Turns by places are turns by names.
use Rattle.std.proofs.Common.{◌≡◌, ◌≢◌, ◌⊎◌, ◌↔◌, ℕ, zero, suc, ◌+◌, ◌<◌, Bool, true, false, List, [], ◌∷◌, ◌++◌, length, map, inl, inr, refl, sym, ap, ◌∙◌, subst, arith, ℤ, pos, true≢false}
use Rattle.std.specs.Prelude.{Contains, sum_by}
use Rattle.std.proofs.lemmas.Bool.{cases_order, false_from_ne_true}
use Rattle.std.proofs.lemmas.List.{length-map, get_or_default}
use Rattle.std.proofs.lemmas.List.Elements.{Contains-get_or, Contains-append_left}
use Rattle.std.proofs.lemmas.List.Sorted.{Contains-permutation, IsPermutation-sym}
use Rattle.lists.specs.Distinct.{AreDistinct}
use Rattle.lists.proofs.Distinct.{distinct_map, distinct_within}
use Rattle.lists.proofs.Entries.{Contains-head, Contains-later, Contains-cases, Contains-map, map-Contains, map_cut, none_in_empty, first_of, not_empty}
use Rattle.fee_rate.specs.declared.rates.Sum.{Sum}
use Rattle.graphs.specs.Graphs.{Graph, Trail, AreConnected, Lists}
use Rattle.graphs.specs.Certificates.{Txs, rate_in, graph_of}
use Rattle.graphs.proofs.ListLemmas.{Lists-for}
use Rattle.graphs.proofs.RenamingLemmas.{sum_by-map}
use Rattle.links.specs.Links.{AreLinks}
use Rattle.links.specs.Walkers.{mark_at}
use Rattle.graph_model.specs.Limits.{Bounds, AreOver}
use Rattle.graph_model.specs.Trims.{kept_of, IsCandidate, GoesFirst, PairsAmong, StaysWithin, AreMarked, IsTrimmed}
use Rattle.graph_model.proofs.LevelLemmas.{connected_told, some_list}
use Rattle.graph_model.proofs.TrimLemmas.{Marks, looked_at, entry_kept, kept_entry, entry_looked, looked_entry, along_trail, rising_once, some_among}
use Rattle.trimming.specs.declared.net.Net.{Net}
use Rattle.trimming.specs.Nets.{tx_at, name_at, size_at, IsParent, IsNetOf}
use Rattle.trimming.specs.Counts.{IsUnkept}
use Rattle.trimming.specs.Ties.{Way, AreTied, Or}
use Rattle.trimming.specs.Turns.{IsNext, IsJudged, AreTurns}
use Rattle.trimming.proofs.Ordering.{rate_of_entry}
use Rattle.trimming.proofs.Netting.{names_apart, names_moved}
use Rattle.trimming.proofs.Tying.{tied_step}
use Rattle.trimming.proofs.Turning.{kept_looked, looked_low}

-- ---- lists that there are

above_ends : (pairs : List (ℕ × ℕ)) → (bound : ℕ) × ((x y : ℕ) → Contains pairs (x, y) → (x < bound) × (y < bound))
above_ends [] = (0, λ x y here. absurd (none_in_empty (x, y) here))
above_ends (p ∷ pairs) =
    let rest = above_ends pairs in (
      suc p.0 + suc p.1 + rest.0,
      λ x y here. elim (Contains-cases p (x, y) pairs here) [
        | inl same ↦
            let one : p.0 ≡ x = ap (λ (r : ℕ × ℕ). r.0) same in
            let two : p.1 ≡ y = ap (λ (r : ℕ × ℕ). r.1) same in
            (omega (arith, one), omega (arith, two))
        | inr later ↦ let low = rest.1 x y later in (omega (arith, low.0), omega (arith, low.1))
      ],
    )

some_component : (pairs : List (ℕ × ℕ)) (id : ℕ) → (ids : List ℕ) × Lists (AreConnected pairs id) ids
some_component pairs id =
    let bound = above_ends pairs in
    let top : ℕ = suc id + bound.0 in
    some_list (AreConnected pairs id) (λ q. connected_told pairs id q) top
    (λ q trail. along_trail (λ (n : ℕ). n < top) pairs
    (λ x y here. let low = bound.1 x y here in (omega (arith, low.0), omega (arith, low.1))) id q trail.0 (omega arith) trail.1)

more_over : (bounds : Bounds) (size : ℕ → ℕ) (xs ys : List ℕ) → AreDistinct xs → ((q : ℕ) → Contains xs q → Contains ys q)
    → AreOver bounds size xs → AreOver bounds size ys
more_over bounds size xs ys once inside over =
    let fits = distinct_within size xs ys once inside in
    elim over [ inl many ↦ inl (omega (arith, many, fits.0)) | inr large ↦ inr (omega (arith, large, fits.1)) ]

-- ---- names of places

module _ (txs : Txs) (pairs : List (ℕ × ℕ)) (net : Net) (links : AreLinks (record { txs = txs; pairs = pairs })) (of : IsNetOf txs pairs net) where
  abbrev name : ℕ → ℕ
  name place = name_at net.txs.items place

  abbrev graph : Graph
  graph = graph_of txs pairs

  abbrev rate : ℕ → Sum
  rate = rate_in txs

  abbrev tx_name : ℕ × ℤ × ℕ → ℕ
  tx_name tx = tx.0

  entry_in : (place : ℕ) → place < length net.txs.items → Contains txs (tx_at net.txs.items place)
  entry_in place low =
      Contains-permutation net.txs.items txs (tx_at net.txs.items place) (IsPermutation-sym txs net.txs.items of.same)
      (Contains-get_or net.txs.items place (0, pos 0, 0) low)

  pub named : (place : ℕ) → place < length net.txs.items → Contains graph.names (name place)
  named place low = Contains-map tx_name txs (tx_at net.txs.items place) (entry_in place low)

  pub place_of : (id : ℕ) → Contains graph.names id → (place : ℕ) × (place < length net.txs.items) × (name place ≡ id)
  place_of id here =
      let found = map-Contains tx_name txs id here in
      let there = Contains-permutation txs net.txs.items found.0 of.same found.1 in
      (there.0, there.1, ap tx_name (get_or_default net.txs.items there.0 (0, pos 0, 0) found.0 there.1 ∙ there.2) ∙ found.2)

  pub one_name : (p q : ℕ) → p < length net.txs.items → q < length net.txs.items → name p ≡ name q → p ≡ q
  one_name p q low high same =
      let once = names_moved txs net.txs.items of.same links.graph_is.names in
      elim (cases_order p q) [
        | inl is ↦ is
        | inr (inl less) ↦ absurd (names_apart net.txs.items once p q less high same)
        | inr (inr more) ↦ absurd (names_apart net.txs.items once q p more low (sym same))
      ]

  size_is : (place : ℕ) → place < length net.txs.items → (rate (name place)).size ≡ size_at net.txs.items place
  size_is place low = ap (λ (s : Sum). s.size) (rate_of_entry txs (tx_at net.txs.items place) links.graph_is.names (entry_in place low))

  abbrev entry : ℕ × Bool → ℕ × Bool
  entry e = (name e.0, e.1)

  abbrev pub renamed : Marks → Marks
  renamed marked = map entry marked

  -- ---- marks by names

  module _ (marked : Marks) (low : (q : ℕ) → Contains (looked_at marked) q → q < length net.txs.items) where
    looked_named : (q : ℕ) → Contains (looked_at marked) q → Contains (looked_at (renamed marked)) (name q)
    looked_named q here =
        let e = looked_entry marked q here in entry_looked (renamed marked) (name q, e.0) (Contains-map entry marked (q, e.0) e.1)

    named_looked : (q : ℕ) → q < length net.txs.items → Contains (looked_at (renamed marked)) (name q) → Contains (looked_at marked) q
    named_looked q inside here =
        let e = looked_entry (renamed marked) (name q) here in
        let found = map-Contains entry marked (name q, e.0) e.1 in
        let there : Contains (looked_at marked) (found.0).0 = entry_looked marked found.0 found.1 in
        subst (Contains (looked_at marked)) (one_name (found.0).0 q (low (found.0).0 there) inside (ap (λ (x : ℕ × Bool). x.0) found.2)) there

    kept_named : (q : ℕ) → Contains (kept_of marked) q → Contains (kept_of (renamed marked)) (name q)
    kept_named q here = entry_kept (renamed marked) (name q) (Contains-map entry marked (q, true) (kept_entry marked q here))

    named_kept : (q : ℕ) → q < length net.txs.items → Contains (kept_of (renamed marked)) (name q) → Contains (kept_of marked) q
    named_kept q inside here =
        let found = map-Contains entry marked (name q, true) (kept_entry (renamed marked) (name q) here) in
        let is : (found.0).1 ≡ true = ap (λ (x : ℕ × Bool). x.1) found.2 in
        let there : Contains (looked_at marked) (found.0).0 = entry_looked marked found.0 found.1 in
        let same : (found.0).0 ≡ q = one_name (found.0).0 q (low (found.0).0 there) inside (ap (λ (x : ℕ × Bool). x.0) found.2) in
        let both : ◌≡◌ {A = ℕ × Bool} found.0 (q, true) = λ i. (same i, is i) in
        entry_kept marked q (subst (Contains marked) both found.1)

    pub next_candidate : (p : ℕ) → IsNext net marked p → IsCandidate graph (renamed marked) (name p)
    next_candidate p is = record {
      named = named p is.within;
      fresh = λ here. is.fresh (named_looked p is.within here);
      parents = λ parent pair.
          let step = of.pairs_all parent (name p) pair in
          let inside = of.net_is.within step.0 step.1 step.2 in
          let same : step.1 ≡ p = one_name step.1 p inside.1 is.within step.4 in
          subst (Contains (kept_of (renamed marked))) step.3 (kept_named step.0 (is.parents step.0 (subst (IsParent net step.0) same step.2)));
    }

    pub candidate_next : (id : ℕ) → IsCandidate graph (renamed marked) id → (p : ℕ) × IsNext net marked p × (name p ≡ id)
    candidate_next id is =
        let place = place_of id is.named in
        let p : ℕ = place.0 in (
          p,
          record {
            within = place.1;
            fresh = λ here. is.fresh (subst (Contains (looked_at (renamed marked))) place.2 (looked_named p here));
            parents = λ a up.
                let pair = of.pairs_are a p up in
                named_kept a (of.net_is.within a p up).0
                (is.parents (name a) (subst (λ (q : ℕ). Contains {X = ℕ × ℕ} pairs (name a, q)) place.2 pair));
          },
          place.2,
        )

    -- ---- components by names

    module _ (p : ℕ) (inside : p < length net.txs.items) (some : List (ℕ × ℕ)) (among : PairsAmong pairs (name p ∷ kept_of (renamed marked)) some) where
      abbrev P : ℕ → Type 0
      P = Or (Contains (kept_of marked)) p

      listed : (x : ℕ) → P x → Contains (name p ∷ kept_of (renamed marked)) (name x)
      listed x (inl same) = subst (λ (q : ℕ). Contains (name p ∷ kept_of (renamed marked)) (name q)) (sym same) (Contains-head (name p) (kept_of (renamed marked)))
      listed x (inr is) = Contains-later (name p) (name x) (kept_of (renamed marked)) (kept_named x is)

      unlisted : (x : ℕ) → x < length net.txs.items → Contains (name p ∷ kept_of (renamed marked)) (name x) → P x
      unlisted x low_x here = elim (Contains-cases (name p) (name x) (kept_of (renamed marked)) here) [
        | inl same ↦ inl (one_name x p low_x inside (sym same))
        | inr later ↦ inr (named_kept x low_x later)
      ]

      pub trail_of : (a b n : ℕ) → Way (IsParent net) P a b n → Trail some (name a) (name b) n
      trail_of a b zero same = ap name same
      trail_of a b (suc n) (c, way, here, there, step) = (
        name c,
        trail_of a c n way,
        elim step [
          | inl down ↦ inl ((among (name c) (name b)).1 (of.pairs_are c b down, listed c here, listed b there))
          | inr up ↦ inr ((among (name b) (name c)).1 (of.pairs_are b c up, listed b there, listed c here))
        ],
      )

      step_back : (a b y : ℕ) → b < length net.txs.items → AreTied (IsParent net) P a b
          → Contains {X = ℕ × ℕ} some (name b, y) ⊎ Contains {X = ℕ × ℕ} some (y, name b)
          → (d : ℕ) × (d < length net.txs.items) × (name d ≡ y) × AreTied (IsParent net) P a d
      step_back a b y low_b tied (inl down) =
          let is = (among (name b) y).0 down in
          let step = of.pairs_all (name b) y is.0 in
          let ends = of.net_is.within step.0 step.1 step.2 in
          let same : step.0 ≡ b = one_name step.0 b ends.0 low_b step.3 in (
            step.1,
            ends.1,
            step.4,
            tied_step (IsParent net) P a b step.1 tied (unlisted b low_b is.1)
                (unlisted step.1 ends.1 (subst (Contains (name p ∷ kept_of (renamed marked))) (sym step.4) is.2))
                (inl (subst (λ (q : ℕ). IsParent net q step.1) same step.2)),
          )
      step_back a b y low_b tied (inr up) =
          let is = (among y (name b)).0 up in
          let step = of.pairs_all y (name b) is.0 in
          let ends = of.net_is.within step.0 step.1 step.2 in
          let same : step.1 ≡ b = one_name step.1 b ends.1 low_b step.4 in (
            step.0,
            ends.0,
            step.3,
            tied_step (IsParent net) P a b step.0 tied (unlisted b low_b is.2)
                (unlisted step.0 ends.0 (subst (Contains (name p ∷ kept_of (renamed marked))) (sym step.3) is.1))
                (inr (subst (IsParent net step.0) same step.2)),
          )

      pub trail_back : (a y n : ℕ) → a < length net.txs.items → Trail some (name a) y n
          → (d : ℕ) × (d < length net.txs.items) × (name d ≡ y) × AreTied (IsParent net) P a d
      trail_back a y zero low_a same = (a, low_a, same, (0, refl))
      trail_back a y (suc n) low_a (c, trail, step) =
          let before = trail_back a c n low_a trail in
          step_back a before.0 y before.1 before.3
          (subst (λ (q : ℕ). Contains {X = ℕ × ℕ} some (q, y) ⊎ Contains {X = ℕ × ℕ} some (y, q)) (sym before.2) step)

      -- what is tied to the place is a place
      tied_low : (x : ℕ) → AreTied (IsParent net) P p x → x < length net.txs.items
      tied_low x (zero, same) = subst (λ (q : ℕ). q < length net.txs.items) same inside
      tied_low x (suc n, (c, way, here, inl same, step)) = subst (λ (q : ℕ). q < length net.txs.items) (sym same) inside
      tied_low x (suc n, (c, way, here, inr is, step)) = low x (kept_looked marked x is)

    -- ---- the limits by names

    module _ (bounds : Bounds) (p : ℕ) (inside : p < length net.txs.items) (mark : Bool) (judged : IsJudged bounds net (kept_of marked) p mark) where
      abbrev sizes : ℕ → ℕ
      sizes q = (rate q).size

      found_low : (x : ℕ) → Contains judged.found x → x < length net.txs.items
      found_low x here =
          let among = some_among pairs (name p ∷ kept_of (renamed marked)) in
          tied_low p inside among.0 among.1 x (judged.sound x here)

      abbrev found_names : List ℕ
      found_names = map name judged.found

      names_long : length found_names ≡ length judged.found
      names_long = length-map judged.found name

      names_size : sum_by sizes found_names ≡ sum_by (size_at net.txs.items) judged.found
      names_size = sum_by-map name sizes (size_at net.txs.items) judged.found (λ x here. size_is x (found_low x here))

      over_names : AreOver bounds (size_at net.txs.items) judged.found → AreOver bounds sizes found_names
      over_names (inl many) = inl (omega (arith, many, names_long))
      over_names (inr large) = inr (omega (arith, large, names_size))

      names_over : AreOver bounds sizes found_names → AreOver bounds (size_at net.txs.items) judged.found
      names_over (inl many) = inl (omega (arith, many, names_long))
      names_over (inr large) = inr (omega (arith, large, names_size))

      names_once : AreDistinct found_names
      names_once = distinct_map name judged.found judged.once (λ a b here there same. one_name a b (found_low a here) (found_low b there) same)

      stays_named : mark ≡ true → StaysWithin bounds rate graph (kept_of (renamed marked)) (name p)
      stays_named is some ids among lists over =
          (judged.stays is).1 (names_over (more_over bounds sizes ids found_names (rising_once ids lists.rising)
          (λ q here.
          let trail = (lists.exact q).0 here in
          let back = trail_back p inside some among p q trail.0 inside trail.1 in
          subst (Contains found_names) back.2 (Contains-map name judged.found back.0 ((judged.stays is).0 back.0 back.3)))
          over))

      left_over : mark ≡ false → StaysWithin bounds rate graph (kept_of (renamed marked)) (name p) → ⊥
      left_over isnt stays =
          let among = some_among pairs (name p ∷ kept_of (renamed marked)) in
          let list = some_component among.0 (name p) in
          stays among.0 list.0 among.1 list.1 (more_over bounds sizes found_names list.0 names_once
          (λ q here.
          let found = map-Contains name judged.found q here in
          let tied = judged.sound found.0 found.1 in
          (list.1.exact q).1 (subst (AreConnected among.0 (name p)) found.2 (tied.0, trail_of p inside among.0 among.1 p found.0 tied.0 tied.1)))
          (over_names (judged.goes isnt)))

      named_stays : (b : Bool) → mark ≡ b → StaysWithin bounds rate graph (kept_of (renamed marked)) (name p) → mark ≡ true
      named_stays true is stays = is
      named_stays false is stays = absurd (left_over is stays)

      pub judged_named : (mark ≡ true) ↔ StaysWithin bounds rate graph (kept_of (renamed marked)) (name p)
      judged_named = (stays_named, named_stays mark refl)

  -- ---- all turns by names

  module _ (bounds : Bounds) (marked : Marks) (turns : AreTurns bounds net marked) where
    abbrev IsTurn : Marks → ℕ → Bool → Type 0
    IsTurn before id mark = IsCandidate graph before id
        × ((other : ℕ) → IsCandidate graph before other → other ≢ id → GoesFirst rate id other)
        × ((mark ≡ true) ↔ StaysWithin bounds rate graph (kept_of before) id)

    front_low : (front rest : Marks) → marked ≡ front ++ rest → (q : ℕ) → Contains (looked_at front) q → q < length net.txs.items
    front_low front rest e q here =
        let found = looked_entry front q here in
        looked_low bounds net marked turns q (subst (λ (l : Marks). Contains (looked_at l) q) (sym e)
        (entry_looked (front ++ rest) (q, found.0) (Contains-append_left front rest (q, found.0) found.1)))

    named_turn : (front rest : Marks) (id : ℕ) (mark : Bool) (after : Marks) → marked ≡ front ++ rest
        → ◌≡◌ {A = Marks} ((id, mark) ∷ after) (renamed rest) → IsTurn (renamed front) id mark
    named_turn front [] id mark after e same = absurd (not_empty same)
    named_turn front (x ∷ rest) id mark after e same =
        let turn = turns front rest x.0 x.1 e in
        let p : ℕ = x.0 in
        let low = front_low front (x ∷ rest) e in
        let first : ◌≡◌ {A = ℕ × Bool} (id, mark) (name p, x.1) = first_of same in
        let made : IsTurn (renamed front) (name p) x.1 = (
          next_candidate front low p turn.0,
          λ other is differ.
              let q = candidate_next front low other is in
              let later : p < q.0 = turn.1 q.0 q.1 (λ equal. differ (sym q.2 ∙ ap name equal)) in
              subst (GoesFirst rate (name p)) q.2 (of.order p q.0 later q.1.within),
          judged_named front low bounds p turn.0.within x.1 turn.2,
        ) in
        subst (λ (z : ℕ × Bool). IsTurn (renamed front) z.0 z.1) (sym first) made

    pub marks_named : ((p : ℕ) → IsNext net marked p → ⊥) → AreMarked bounds rate graph (renamed marked)
    marks_named ended = record {
      turns = λ before after id mark e.
          let cut = map_cut entry marked before ((id, mark) ∷ after) e in
          subst (λ (l : Marks). IsTurn l id mark) (sym cut.3) (named_turn cut.0 cut.1 id mark after cut.2 cut.4);
      ended = λ id is. let next = candidate_next marked (looked_low bounds net marked turns) id is in ended next.0 next.1;
    }

    pub trimmed_made : (kept : List Bool) (ids : List ℕ) → ((p : ℕ) → IsNext net marked p → ⊥)
        → ((p : ℕ) → (mark_at kept p ≡ true) ↔ Contains (kept_of marked) p) → Lists (IsUnkept net.txs.items kept) ids → IsTrimmed bounds rate graph ids
    trimmed_made kept ids ended same rest =
        let low = looked_low bounds net marked turns in
        record {
          marked = renamed marked;
          marks = marks_named ended;
          rest = Lists-for (IsUnkept net.txs.items kept) (λ id. Contains graph.names id × (Contains (kept_of (renamed marked)) id → ⊥)) ids
              (λ id is. (
                subst (Contains graph.names) is.3 (named is.0 is.1),
                λ here. true≢false (sym ((same is.0).1 (named_kept marked low is.0 is.1 (subst (Contains (kept_of (renamed marked))) (sym is.3) here))) ∙ is.2),
              ))
              (λ id is.
              let place = place_of id is.0 in (
                place.0,
                place.1,
                false_from_ne_true (mark_at kept place.0)
                    (λ kept_is. is.1 (subst (Contains (kept_of (renamed marked))) place.2 (kept_named marked low place.0 ((same place.0).0 kept_is)))),
                place.2,
              ))
              rest;
        }
