-- What sending along a shortest path does to a labelling: it stays one, no pair of places is new where it rises, and a
-- pair or a place that was unsettled is used up.
use Rattle.std.proofs.Common.{◌≡◌, ℕ, zero, suc, ◌+◌, ◌<◌, ◌≤◌, ◌⊎◌, inl, inr, List, length, true, false}
use Rattle.std.proofs.Common.{◌||◌, nat_eq, nat_lt, Option, Some, None, ℤ, pos, negsuc, ◌<ℤ◌, refl, sym, ap, ◌∙◌}
use Rattle.std.proofs.Common.{subst, arith, eq-eqb, ne_eqb}
use Rattle.std.proofs.lemmas.Bool.{cases_eq, cases_lt, lt-ltb, ltb-true, false_from_ne_true, and_parts, and_from, or_cases, or_left, or_right}
use Rattle.std.proofs.lemmas.Int.{ints}
use Rattle.std.specs.List.{count_by}
use Rattle.std.specs.Ordering.{nat_cmp}
use Rattle.std.specs.FinSet as set
use Rattle.lists.proofs.Cases.{clash}
use Rattle.bitset.specs.Places.{IsWithin, places}
use Rattle.closure_flow.specs.declared.queue.Entry.{Entry}
use Rattle.closure_flow.specs.Closures.{parents_at}
use Rattle.closure_flow.specs.Flows.{Among}
use Rattle.closure_flow.specs.Labels.{Climbs, IsLabelling, IsShortest, IsStep, Leads, Spends, back, before_of, is_some_left, is_uphill, unsettled, uphill}
use Rattle.closure_flow.specs.Queues.{place_at, from_at, IsSearch}
use Rattle.closure_flow.proofs.Counts.{count_mono, count_strict, sum_mono, sum_strict}
use Rattle.closure_flow.proofs.Levels.{back_below}
use Rattle.closure_flow.proofs.Paths.{among_places, places_among}

-- ---- what is uphill
leads_of : (parents : List (set.FinSet nat_cmp)) (flow : ℕ → ℕ → ℕ) (label : ℕ → ℕ) (u v : ℕ) → is_uphill parents flow label u v ≡ true
    → Leads parents flow u v × (label v ≡ label u + 1)
leads_of parents flow label u v e =
    let both = and_parts (set.contains (parents_at parents u) v || nat_lt 0 (flow v u)) (nat_eq (label v) (label u + 1)) e in (
      elim (or_cases (set.contains (parents_at parents u) v) (nat_lt 0 (flow v u)) both.0) as (λ _. Leads parents flow u v) [
        | inl p ↦ inl p
        | inr f ↦ inr (ltb-true 0 (flow v u) f)
      ],
      elim (cases_eq (label v) (label u + 1)) as (λ _. label v ≡ label u + 1) [ inl same ↦ same | inr other ↦ clash _ both.1 (ne_eqb _ _ other) ],
    )

of_leads : (parents : List (set.FinSet nat_cmp)) (flow : ℕ → ℕ → ℕ) (label : ℕ → ℕ) (u v : ℕ) → Leads parents flow u v → label v ≡ label u + 1
    → is_uphill parents flow label u v ≡ true
of_leads parents flow label u v (inl p) e = and_from _ _ (or_left _ _ p) (eq-eqb _ _ e)
of_leads parents flow label u v (inr f) e = and_from _ _ (or_right _ _ (lt-ltb 0 (flow v u) f)) (eq-eqb _ _ e)

-- ---- what is unsettled
some_left : (z : ℤ) → is_some_left z ≡ true → (pos 0 <ℤ z) ⊎ (z <ℤ pos 0)
some_left (pos zero) e = absurd (let f : false ≡ true = e in cc)
some_left (pos (suc k)) e = inl (omega (arith, ints))
some_left (negsuc k) e = inr (omega (arith, ints))

left_some : (z : ℤ) → (pos 0 <ℤ z) ⊎ (z <ℤ pos 0) → is_some_left z ≡ true
left_some (pos zero) (inl h) = absurd (omega (arith, ints, h))
left_some (pos zero) (inr h) = absurd (omega (arith, ints, h))
left_some (pos (suc k)) h = refl
left_some (negsuc k) h = refl

none_left : (z : ℤ) → z ≡ pos 0 → is_some_left z ≡ false
none_left z e = ap is_some_left e

-- ---- an amount that went along the path to an entry, as far as its labelling goes
pub record Along (n : ℕ) (parents : List (set.FinSet nat_cmp)) (within : set.FinSet nat_cmp) (F G : ℕ → ℕ → ℕ) (r s : ℕ → ℤ) (es : List Entry)
    (at : ℕ) : Type 0 where
  pub below : IsWithin n within
  -- a pair has more flow only where the path goes along it
  pub grown : (c p : ℕ) → set.contains within c ≡ true → set.contains within p ≡ true → F c p < G c p → IsStep es at c p
  -- only what was over is over, only what was short is short
  pub over : (t : ℕ) → set.contains within t ≡ true → pos 0 <ℤ s t → pos 0 <ℤ r t
  pub short : (t : ℕ) → set.contains within t ≡ true → s t <ℤ pos 0 → r t <ℤ pos 0

-- and what it used up: a place with something left or lacking, or flow against a step
abbrev pub UsesUp : (parents : List (set.FinSet nat_cmp)) (within : set.FinSet nat_cmp) (F G : ℕ → ℕ → ℕ) (r s : ℕ → ℤ) (es : List Entry) (at : ℕ) → Type 0
UsesUp parents within F G r s es at =
    ((t : ℕ) × (set.contains within t ≡ true) × (s t ≡ pos 0) × ((pos 0 <ℤ r t) ⊎ (r t <ℤ pos 0)))
    ⊎ ((u : ℕ) × (v : ℕ) × IsStep es at u v × (set.contains within u ≡ true) × (set.contains within v ≡ true) ×
    (set.contains (parents_at parents u) v ≡ false) × (0 < F v u) × (G v u ≡ 0))

still_labels : (n : ℕ) (parents : List (set.FinSet nat_cmp)) (within : set.FinSet nat_cmp) (F G : ℕ → ℕ → ℕ) (r s : ℕ → ℤ) (es : List Entry) (at : ℕ)
    (label : ℕ → ℕ) (end : ℕ)
    → Along n parents within F G r s es at → Climbs es at label → IsLabelling parents within F r label end → IsLabelling parents within G s label end
still_labels n parents within F G r s es at label end a climbs valid =
    record {
      starts = λ t m o. valid.starts t m (a.over t m o);
      steps = λ u v mu mv leads. elim leads as (λ _. label v ≤ label u + 1) [
        | inl p ↦ valid.steps u v mu mv (inl p)
        | inr f ↦ elim (cases_lt (F v u) (G v u)) as (λ _. label v ≤ label u + 1) [
          | inl more ↦ omega (arith, climbs v u (a.grown v u mv mu more))
          | inr less ↦ valid.steps u v mu mv (inr (omega (arith, f, less)))
        ]
      ];
      ends = λ t m low. valid.ends t m (a.short t m low);
    }

-- each pair of places where the labelling rises was one before
still_uphill : (n : ℕ) (parents : List (set.FinSet nat_cmp)) (within : set.FinSet nat_cmp) (F G : ℕ → ℕ → ℕ) (r s : ℕ → ℤ) (es : List Entry) (at : ℕ)
    (label : ℕ → ℕ)
    → Along n parents within F G r s es at → Climbs es at label → (u v : ℕ) → Among u (places n within) → Among v (places n within)
    → is_uphill parents G label u v ≡ true → is_uphill parents F label u v ≡ true
still_uphill n parents within F G r s es at label a climbs u v hu hv e =
    let l = leads_of parents G label u v e in
    let mu = (places_among n within u hu).1 in
    let mv = (places_among n within v hv).1 in
    of_leads parents F label u v
    (elim l.0 as (λ _. Leads parents F u v) [
      | inl p ↦ inl p
      | inr f ↦ elim (cases_lt (F v u) (G v u)) as (λ _. Leads parents F u v) [
        | inl more ↦ absurd (omega (arith, climbs v u (a.grown v u mv mu more), l.1))
        | inr less ↦ inr (omega (arith, f, less))
      ]
    ])
    l.1

still_some : (n : ℕ) (parents : List (set.FinSet nat_cmp)) (within : set.FinSet nat_cmp) (F G : ℕ → ℕ → ℕ) (r s : ℕ → ℤ) (es : List Entry) (at : ℕ)
    → Along n parents within F G r s es at → (t : ℕ) → Among t (places n within) → is_some_left (s t) ≡ true → is_some_left (r t) ≡ true
still_some n parents within F G r s es at a t h e =
    let m = (places_among n within t h).1 in
    left_some (r t) (elim (some_left (s t) e) as (λ _. (pos 0 <ℤ r t) ⊎ (r t <ℤ pos 0)) [ inl o ↦ inl (a.over t m o) | inr l ↦ inr (a.short t m l) ])

fewer_unsettled : (n : ℕ) (parents : List (set.FinSet nat_cmp)) (within : set.FinSet nat_cmp) (F G : ℕ → ℕ → ℕ) (r s : ℕ → ℤ) (es : List Entry) (at : ℕ)
    → Along n parents within F G r s es at → unsettled s (places n within) ≤ unsettled r (places n within)
unfolding unsettled
fewer_unsettled n parents within F G r s es at a =
    count_mono (λ t. is_some_left (s t)) (λ t. is_some_left (r t)) (places n within) (still_some n parents within F G r s es at a)

fewer_uphill : (n : ℕ) (parents : List (set.FinSet nat_cmp)) (within : set.FinSet nat_cmp) (F G : ℕ → ℕ → ℕ) (r s : ℕ → ℤ) (es : List Entry) (at : ℕ)
    (label : ℕ → ℕ)
    → Along n parents within F G r s es at → Climbs es at label → uphill parents G label (places n within) ≤ uphill parents F label (places n within)
unfolding uphill
fewer_uphill n parents within F G r s es at label a climbs =
    sum_mono (λ u. count_by (is_uphill parents G label u) (places n within)) (λ u. count_by (is_uphill parents F label u) (places n within)) (places n within)
    (λ u hu. count_mono (is_uphill parents G label u) (is_uphill parents F label u) (places n within)
    (λ v hv. still_uphill n parents within F G r s es at label a climbs u v hu hv))

less_unsettled : (n : ℕ) (parents : List (set.FinSet nat_cmp)) (within : set.FinSet nat_cmp) (F G : ℕ → ℕ → ℕ) (r s : ℕ → ℤ) (es : List Entry) (at t : ℕ)
    → Along n parents within F G r s es at → set.contains within t ≡ true → s t ≡ pos 0 → (pos 0 <ℤ r t) ⊎ (r t <ℤ pos 0)
    → unsettled s (places n within) < unsettled r (places n within)
unfolding unsettled
less_unsettled n parents within F G r s es at t a m none some =
    count_strict (λ t. is_some_left (s t)) (λ t. is_some_left (r t)) (places n within) t (still_some n parents within F G r s es at a)
    (among_places n within t (a.below t m) m) (none_left (s t) none) (left_some (r t) some)

less_uphill : (n : ℕ) (parents : List (set.FinSet nat_cmp)) (within : set.FinSet nat_cmp) (F G : ℕ → ℕ → ℕ) (r s : ℕ → ℤ) (es : List Entry) (at : ℕ)
    (label : ℕ → ℕ) (u v : ℕ)
    → Along n parents within F G r s es at → Climbs es at label → IsStep es at u v → set.contains within u ≡ true → set.contains within v ≡ true
    → set.contains (parents_at parents u) v ≡ false → 0 < F v u → G v u ≡ 0
    → uphill parents G label (places n within) < uphill parents F label (places n within)
unfolding uphill
less_uphill n parents within F G r s es at label u v a climbs step mu mv out some none =
    let hu = among_places n within u (a.below u mu) mu in
    let hv = among_places n within v (a.below v mv) mv in
    let gone : is_uphill parents G label u v ≡ false =
    false_from_ne_true _ (λ e. elim (leads_of parents G label u v e).0 as (λ _. ⊥) [ inl p ↦ clash _ p out | inr f ↦ omega (arith, f, none) ]) in
    sum_strict (λ u. count_by (is_uphill parents G label u) (places n within)) (λ u. count_by (is_uphill parents F label u) (places n within))
    (places n within) u
    (λ x hx. count_mono (is_uphill parents G label x) (is_uphill parents F label x) (places n within)
    (λ y hy. still_uphill n parents within F G r s es at label a climbs x y hx hy))
    hu
    (count_strict (is_uphill parents G label u) (is_uphill parents F label u) (places n within) v
    (λ y hy. still_uphill n parents within F G r s es at label a climbs u y hu hy) hv gone
    (of_leads parents F label u v (inr some) (climbs u v step)))

pub spends : (n : ℕ) (parents : List (set.FinSet nat_cmp)) (within : set.FinSet nat_cmp) (F G : ℕ → ℕ → ℕ) (r s : ℕ → ℤ) (es : List Entry) (at : ℕ)
    (label : ℕ → ℕ) (end : ℕ)
    → Along n parents within F G r s es at → UsesUp parents within F G r s es at → Climbs es at label → IsLabelling parents within F r label end
    → Spends parents within (places n within) F r G s label end
spends n parents within F G r s es at label end a used climbs valid =
    record {
      valid = still_labels n parents within F G r s es at label end a climbs valid;
      fewer = elim used as (λ _. unsettled s (places n within) + uphill parents G label (places n within) < unsettled r (places n within)
          + uphill parents F label (places n within)) [
            | inl place ↦ omega (
              arith,
              less_unsettled n parents within F G r s es at place.0 a place.1 place.2 place.3,
              fewer_uphill n parents within F G r s es at label a climbs,
            )
            | inr pair ↦ omega (
              arith,
              fewer_unsettled n parents within F G r s es at a,
              less_uphill n parents within F G r s es at label pair.0 pair.1 a climbs pair.2 pair.3 pair.4 pair.5 pair.6 pair.7,
            )
          ];
    }

-- ---- a labelling beside the one that shows a path shortest
module _ (n : ℕ) (parents : List (set.FinSet nat_cmp)) (within : set.FinSet nat_cmp) (flow : ℕ → ℕ → ℕ) (rest : ℕ → ℤ) (es : List Entry) (at : ℕ)
    (s : IsSearch n parents within flow rest es) (inside : at < length es) (path : IsShortest parents within flow rest es at)
    (label : ℕ → ℕ) (end : ℕ) (valid : IsLabelling parents within flow rest label end) where
  back_inside : (k : ℕ) → back es at k < length es
  back_inside k = omega (arith, back_below n parents within flow rest es at k s inside, inside)

  record Edge (k : ℕ) : Type 0 where
    step : IsStep es at (place_at es (back es at (suc k))) (place_at es (back es at k))
    lower : back es at (suc k) < back es at k
    rises : label (place_at es (back es at k)) ≤ label (place_at es (back es at (suc k))) + 1

  edge : (k j : ℕ) → from_at es (back es at k) ≡ Some j → Edge k
  edge k j e =
      let is : back es at (suc k) ≡ j = ap (λ (o : Option ℕ). before_of o (back es at k)) e in
      let found : from_at es (back es at k) ≡ Some (back es at (suc k)) = e ∙ ap (λ (i : ℕ). Some i) (sym is) in
      let both = s.step (back es at k) (back es at (suc k)) (back_inside k) found in
      record {
        step = record { k = k; found = found; first = refl; next = refl };
        lower = both.0;
        rises = valid.steps _ _ (s.inside _ (back_inside (suc k))) (s.inside _ (back_inside k)) both.1;
      }

  stays : (k : ℕ) → from_at es (back es at k) ≡ None → back es at (suc k) ≡ back es at k
  stays k e = ap (λ (o : Option ℕ). before_of o (back es at k)) e

  not_above : (fuel k : ℕ) → back es at k < fuel → label (place_at es (back es at k)) ≤ path.label (place_at es (back es at k))
  not_above zero k h = absurd (omega arith)
  not_above (suc fuel) k h = by (from_at es (back es at k)) refl (λ less. not_above fuel (suc k) less)
    where
      by : (o : Option ℕ) → from_at es (back es at k) ≡ o
          → (back es at (suc k) < fuel → label (place_at es (back es at (suc k))) ≤ path.label (place_at es (back es at (suc k))))
          → label (place_at es (back es at k)) ≤ path.label (place_at es (back es at k))
      by None e rest_ = omega (arith, valid.starts _ (s.inside _ (back_inside k)) (s.start _ (back_inside k) e))
      by (Some j) e rest_ =
          let d = edge k j e in
          omega (arith, d.rises, path.climbs _ _ d.step, rest_ (omega (arith, h, d.lower)))

  -- the end is not lower under the other
  pub not_lower : rest (place_at es at) <ℤ pos 0 → end ≤ path.label (place_at es at)
  not_lower low = omega (arith, valid.ends _ (s.inside at inside) low, not_above (suc at) 0 (omega arith))

  same_back : label (place_at es at) ≡ path.label (place_at es at) → (k : ℕ) → label (place_at es (back es at k)) ≡ path.label (place_at es (back es at k))
  same_back same zero = same
  same_back same (suc k) = by (from_at es (back es at k)) refl (same_back same k)
    where
      by : (o : Option ℕ) → from_at es (back es at k) ≡ o → label (place_at es (back es at k)) ≡ path.label (place_at es (back es at k))
          → label (place_at es (back es at (suc k))) ≡ path.label (place_at es (back es at (suc k)))
      by None e so_far = subst (λ (i : ℕ). label (place_at es i) ≡ path.label (place_at es i)) (sym (stays k e)) so_far
      by (Some j) e so_far =
          let d = edge k j e in
          omega (arith, d.rises, path.climbs _ _ d.step, so_far, not_above (suc (back es at (suc k))) (suc k) (omega arith))

  -- where it is the same, the path climbs under the first too
  pub climbs_too : rest (place_at es at) <ℤ pos 0 → end ≡ path.label (place_at es at) → Climbs es at label
  climbs_too low e u v step =
      let same : label (place_at es at) ≡ path.label (place_at es at) =
      omega (arith, e, valid.ends _ (s.inside at inside) low, not_above (suc at) 0 (omega arith)) in
      let first = ap label step.first ∙ same_back same (suc step.k) ∙ ap path.label (sym step.first) in
      let next = ap label step.next ∙ same_back same step.k ∙ ap path.label (sym step.next) in
      omega (arith, first, next, path.climbs u v step)

-- a label on the path is at most the entry's position: each step back falls by one at least
module _ (n : ℕ) (parents : List (set.FinSet nat_cmp)) (within : set.FinSet nat_cmp) (flow : ℕ → ℕ → ℕ) (rest : ℕ → ℤ) (es : List Entry) (at : ℕ)
    (s : IsSearch n parents within flow rest es) (inside : at < length es) (path : IsShortest parents within flow rest es at) where
  short_back : (fuel k : ℕ) → back es at k < fuel → path.label (place_at es (back es at k)) ≤ back es at k
  short_back zero k h = absurd (omega arith)
  short_back (suc fuel) k h = by (from_at es (back es at k)) refl (λ less. short_back fuel (suc k) less)
    where
      hk : back es at k < length es
      hk = back_inside n parents within flow rest es at s inside path path.label _ path.valid k

      by : (o : Option ℕ) → from_at es (back es at k) ≡ o
          → (back es at (suc k) < fuel → path.label (place_at es (back es at (suc k))) ≤ back es at (suc k))
          → path.label (place_at es (back es at k)) ≤ back es at k
      by None e rest_ = omega (arith, path.valid.starts _ (s.inside _ hk) (s.start _ hk e))
      by (Some j) e rest_ =
          let d = edge n parents within flow rest es at s inside path path.label _ path.valid k j e in
          omega (arith, d.lower, path.climbs _ _ d.step, rest_ (omega (arith, h, d.lower)))

  pub short_way : path.label (place_at es at) ≤ at
  short_way = short_back (suc at) 0 (omega arith)
