-- How many steps a search took to each entry. What it found first is not farther than what it found later, so the path
-- to the first entry that lacks something is a shortest one.
use Rattle.std.proofs.Common.{◌≡◌, ℕ, zero, suc, ◌+◌, ◌<◌, ◌≤◌, ◌⊎◌, inl, inr, List, [], length, Bool, true, false}
use Rattle.std.proofs.Common.{cond, min, nat_lt, Option, Some, None, ℤ, pos, ◌<ℤ◌, ◌≤ℤ◌, refl, sym, ap, ◌∙◌, subst}
use Rattle.std.proofs.Common.{arith}
use Rattle.std.proofs.lemmas.Bool.{cases_lt, lt-ltb, le-ltb, cases_Bool}
use Rattle.std.proofs.lemmas.Int.{ints}
use Rattle.std.specs.Ordering.{nat_cmp}
use Rattle.std.specs.FinSet as set
use Rattle.lists.proofs.Cases.{clash}
use Rattle.closure_flow.specs.declared.queue.Entry.{Entry}
use Rattle.closure_flow.specs.Queues.{place_at, from_at, Lists, Grows, IsBeyond, IsSearch}
use Rattle.closure_flow.specs.Labels.{IsShortest, Leads, back, before_of}
use Rattle.closure_flow.proofs.Searches.{Searching, new_or_old}

-- the entries of a search, of which some were taken, with how many steps it took to each
pub record Levels (parents : List (set.FinSet nat_cmp)) (within : set.FinSet nat_cmp) (flow : ℕ → ℕ → ℕ) (rest : ℕ → ℤ) (es : List Entry) (taken : ℕ)
    : Type 0 where
  pub level : ℕ → ℕ
  pub starts : (i : ℕ) → i < length es → from_at es i ≡ None → level i ≡ 0
  pub climbs : (i j : ℕ) → i < length es → from_at es i ≡ Some j → level i ≡ level j + 1
  pub rising : (i j : ℕ) → i ≤ j → j < length es → level i ≤ level j
  pub near : (i j : ℕ) → i < length es → taken ≤ j → j < length es → level i ≤ level j + 1
  pub over : (i : ℕ) → i < length es → pos 0 <ℤ rest (place_at es i) → level i ≡ 0
  pub found : (i v : ℕ) → i < taken → set.contains within v ≡ true → Leads parents flow (place_at es i) v
      → (k : ℕ) × (k < length es) × (place_at es k ≡ v) × (level k ≤ level i + 1)

pub levels_start : (parents : List (set.FinSet nat_cmp)) (within : set.FinSet nat_cmp) (flow : ℕ → ℕ → ℕ) (rest : ℕ → ℤ) (old es : List Entry)
    (starts : set.FinSet nat_cmp) (k : ℕ)
    → Grows old es starts None → old ≡ [] → k ≡ 0 → Levels parents within flow rest es k
levels_start parents within flow rest old es starts k g none zeroth =
    record {
      level = λ i. 0;
      starts = λ i h e. refl;
      climbs = λ i j h e. absurd (let f : None ≡ Some j = sym (g.added i (omega (arith, ap length none)) h).1 ∙ e in cc);
      rising = λ i j h l. omega arith;
      near = λ i j h l m. omega arith;
      over = λ i h o. refl;
      found = λ i v h m l. absurd (omega (arith, h, zeroth));
    }

pub levels_step : (n : ℕ) (parents : List (set.FinSet nat_cmp)) (within : set.FinSet nat_cmp) (flow : ℕ → ℕ → ℕ) (rest : ℕ → ℤ) (es es' : List Entry)
    (k : ℕ) (seen seen' next : set.FinSet nat_cmp)
    → Searching n parents within flow rest es k seen → Levels parents within flow rest es k → k < length es
    → IsBeyond n parents within flow seen (place_at es k) next
    → Lists es' seen' → Grows es es' next (Some k)
    → ((t : ℕ) → set.contains seen t ≡ true → set.contains seen' t ≡ true)
    → ((t : ℕ) → set.contains next t ≡ true → set.contains seen' t ≡ true)
    → ((t : ℕ) → set.contains within t ≡ true → t < n)
    → Levels parents within flow rest es' (k + 1)
levels_step n parents within flow rest es es' k seen seen' next s lv hk b l g old new below =
    record {
      level = level;
      starts = λ i h e. elim (new_or_old es es' i) as (λ _. level i ≡ 0) [
        | inl was ↦ at_old i was ∙ lv.starts i was (sym (g.kept i was).1 ∙ e)
        | inr now ↦ absurd (let f : Some k ≡ None = sym (g.added i now h).1 ∙ e in cc)
      ];
      climbs = λ i j h e. elim (new_or_old es es' i) as (λ _. level i ≡ level j + 1) [
        | inl was ↦
            let before : from_at es i ≡ Some j = sym (g.kept i was).1 ∙ e in
            let first : j < length es = omega (arith, (s.search.step i j was before).0, was) in
            omega (arith, at_old i was, at_old j first, lv.climbs i j was before)
        | inr now ↦
            let same : Some j ≡ Some k = sym e ∙ (g.added i now h).1 in
            let is : k ≡ j = cc in
            omega (arith, at_new i now, ap level is, at_old k hk)
      ];
      rising = λ i j h hj. elim (new_or_old es es' j) as (λ _. level i ≤ level j) [
        | inl was ↦
            let first : i < length es = omega (arith, h, was) in
            omega (arith, at_old i first, at_old j was, lv.rising i j h was)
        | inr now ↦ omega (arith, at_new j now, most i (omega (arith, h, hj)))
      ];
      near = λ i j hi h hj. omega (arith, most i hi, least j (omega (arith, h)) hj);
      over = λ i h o. elim (new_or_old es es' i) as (λ _. level i ≡ 0) [
        | inl was ↦ at_old i was ∙ lv.over i was (subst (λ (t : ℕ). pos 0 <ℤ rest t) (g.kept i was).0 o)
        | inr now ↦
            let m = (g.added i now h).0 in
            clash _ (s.swept.starts (place_at es' i) (b.inside _ m) o) (b.apart _ m)
      ];
      found = λ i v h m leads. elim (cases_lt i k) as (λ _. Found i v) [
        | inl less ↦
            let was : i < length es = omega (arith, less, hk) in
            let f = lv.found i v less m (subst (λ (t : ℕ). Leads parents flow t v) (g.kept i was).0 leads) in
            (f.0, omega (arith, f.1, g.longer), (g.kept f.0 f.1).0 ∙ f.2, omega (arith, at_old f.0 f.1, at_old i was, f.3))
        | inr more ↦
            let this : i ≡ k = omega (arith, more, h) in
            let at_k : place_at es' i ≡ place_at es k = ap (λ (q : ℕ). place_at es' q) this ∙ (g.kept k hk).0 in
            let f = l.only v (reached v m (subst (λ (t : ℕ). Leads parents flow t v) at_k leads)) in
            (f.0, f.1, f.2, omega (arith, most f.0 f.1, ap level this, at_old k hk))
      ];
    }
  where
    level : ℕ → ℕ
    level i = cond (nat_lt i (length es)) (lv.level i) (lv.level k + 1)

    Found : ℕ → ℕ → Type 0
    Found i v = (q : ℕ) × (q < length es') × (place_at es' q ≡ v) × (level q ≤ level i + 1)

    at_old : (i : ℕ) → i < length es → level i ≡ lv.level i
    at_old i h = ap (λ (t : Bool). cond t (lv.level i) (lv.level k + 1)) (lt-ltb i (length es) h)

    at_new : (i : ℕ) → length es ≤ i → level i ≡ lv.level k + 1
    at_new i h = ap (λ (t : Bool). cond t (lv.level i) (lv.level k + 1)) (le-ltb i (length es) h)

    most : (i : ℕ) → i < length es' → level i ≤ lv.level k + 1
    most i h = elim (new_or_old es es' i) as (λ _. level i ≤ lv.level k + 1) [
      | inl was ↦ omega (arith, at_old i was, lv.near i k was (omega arith) hk)
      | inr now ↦ omega (arith, at_new i now)
    ]

    least : (j : ℕ) → k ≤ j → j < length es' → lv.level k ≤ level j
    least j h hj = elim (new_or_old es es' j) as (λ _. lv.level k ≤ level j) [
      | inl was ↦ omega (arith, at_old j was, lv.rising k j h was)
      | inr now ↦ omega (arith, at_new j now)
    ]

    either : (t : ℕ) → (set.contains seen t ≡ true) ⊎ (set.contains next t ≡ true) → set.contains seen' t ≡ true
    either t (inl m) = old t m
    either t (inr m) = new t m

    reached : (v : ℕ) → set.contains within v ≡ true → Leads parents flow (place_at es k) v → set.contains seen' v ≡ true
    reached v m (inl p) = either v (b.along v p m)
    reached v m (inr f) = either v (b.against v (below v m) f)

-- ---- the end
-- a step back stays at or below an entry
pub back_below : (n : ℕ) (parents : List (set.FinSet nat_cmp)) (within : set.FinSet nat_cmp) (flow : ℕ → ℕ → ℕ) (rest : ℕ → ℤ) (es : List Entry) (at k : ℕ)
    → IsSearch n parents within flow rest es → at < length es → back es at k ≤ at
back_below n parents within flow rest es at zero s h = omega arith
back_below n parents within flow rest es at (suc k) s h = step (back_below n parents within flow rest es at k s h) (from_at es (back es at k)) refl
  where
    step : back es at k ≤ at → (o : Option ℕ) → from_at es (back es at k) ≡ o → before_of o (back es at k) ≤ at
    step so_far None e = so_far
    step so_far (Some j) e = omega (arith, so_far, (s.step (back es at k) j (omega (arith, so_far, h)) e).0)

pub shortest : (n : ℕ) (parents : List (set.FinSet nat_cmp)) (within : set.FinSet nat_cmp) (flow : ℕ → ℕ → ℕ) (rest : ℕ → ℤ) (es : List Entry)
    (k : ℕ) (seen : set.FinSet nat_cmp)
    → Searching n parents within flow rest es k seen → Levels parents within flow rest es k → k < length es
    → IsShortest parents within flow rest es k
shortest n parents within flow rest es k seen s lv hk =
    record {
      label = label;
      valid = record {
        starts = λ t m o.
            (let f = s.lists.only t (s.swept.starts t m o) in
            omega (arith, here f.0 t f.1 f.2, lv.over f.0 f.1 (subst (λ (x : ℕ). pos 0 <ℤ rest x) (sym f.2) o)));
        steps = λ u v mu mv leads. elim (cases_Bool (set.contains seen u)) as (λ _. label v ≤ label u + 1) [
          | inl m ↦ let f = s.lists.only u m in from f.0 u v f.1 f.2 mv leads (cases_lt (lv.level f.0) (lv.level k))
          | inr out ↦ omega (arith, most v, unseen u out)
        ];
        ends = λ t m low. elim (cases_Bool (set.contains seen t)) as (λ _. label (place_at es k) ≤ label t) [
          | inl there ↦ let f = s.lists.only t there in high f.0 t f.1 f.2 low (cases_lt (lv.level f.0) (lv.level k))
          | inr out ↦ omega (arith, most (place_at es k), unseen t out)
        ];
      };
      climbs = λ u v step.
          (let i = back es k step.k in
          let j = back es k (suc step.k) in
          let small = back_below n parents within flow rest es k step.k s.search hk in
          let hi : i < length es = omega (arith, small, hk) in
          let lower = (s.search.step i j hi step.found).0 in
          let hj : j < length es = omega (arith, lower, hi) in
          omega (arith, here i v hi (sym step.next), here j u hj (sym step.first), lv.rising i k small hk, lv.climbs i j hi step.found));
    }
  where
    label_by : (t : ℕ) → (set.contains seen t ≡ true) ⊎ (set.contains seen t ≡ false) → ℕ
    label_by t (inl m) = min (lv.level (s.lists.only t m).0) (lv.level k)
    label_by t (inr out) = lv.level k

    label : ℕ → ℕ
    label t = label_by t (cases_Bool (set.contains seen t))

    here : (i t : ℕ) → i < length es → place_at es i ≡ t → label t ≡ min (lv.level i) (lv.level k)
    here i t h e = by (cases_Bool (set.contains seen t))
      where
        by : (c : (set.contains seen t ≡ true) ⊎ (set.contains seen t ≡ false)) → label_by t c ≡ min (lv.level i) (lv.level k)
        by (inl m) =
            let f = s.lists.only t m in
            ap (λ (q : ℕ). min (lv.level q) (lv.level k)) (s.lists.once f.0 i f.1 h (f.2 ∙ sym e))
        by (inr out) = clash _ (subst (λ (x : ℕ). set.contains seen x ≡ true) e (s.lists.each i h)) out

    unseen : (t : ℕ) → set.contains seen t ≡ false → label t ≡ lv.level k
    unseen t out = by (cases_Bool (set.contains seen t))
      where
        by : (c : (set.contains seen t ≡ true) ⊎ (set.contains seen t ≡ false)) → label_by t c ≡ lv.level k
        by (inl m) = clash _ m out
        by (inr out) = refl

    most : (t : ℕ) → label t ≤ lv.level k
    most t = by (cases_Bool (set.contains seen t))
      where
        by : (c : (set.contains seen t ≡ true) ⊎ (set.contains seen t ≡ false)) → label_by t c ≤ lv.level k
        by (inl m) = omega arith
        by (inr out) = omega arith

    before_k : (i : ℕ) → i < length es → lv.level i < lv.level k → i < k
    before_k i h less = elim (cases_lt i k) as (λ _. i < k) [ inl yes_ ↦ yes_ | inr more ↦ absurd (omega (arith, less, lv.rising k i (omega (arith, more)) h)) ]

    from : (i u v : ℕ) → i < length es → place_at es i ≡ u → set.contains within v ≡ true → Leads parents flow u v
        → (lv.level i < lv.level k) ⊎ (lv.level k ≤ lv.level i) → label v ≤ label u + 1
    from i u v h e m leads (inl less) =
        let f = lv.found i v (before_k i h less) m (subst (λ (t : ℕ). Leads parents flow t v) (sym e) leads) in
        omega (arith, here i u h e, here f.0 v f.1 f.2, f.3)
    from i u v h e m leads (inr more) = omega (arith, more, most v, here i u h e)

    high : (i t : ℕ) → i < length es → place_at es i ≡ t → rest t <ℤ pos 0 → (lv.level i < lv.level k) ⊎ (lv.level k ≤ lv.level i)
        → label (place_at es k) ≤ label t
    high i t h e low (inl less) =
        absurd (omega (arith, ints, low, subst (λ (x : ℕ). pos 0 ≤ℤ rest x) e (s.swept.content i (before_k i h less))))
    high i t h e low (inr more) = omega (arith, more, most (place_at es k), here i t h e)
