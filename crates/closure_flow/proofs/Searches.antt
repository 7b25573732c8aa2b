-- A search step by step: the start, one place taken, the end.
use Rattle.std.proofs.Common.{◌≡◌, ℕ, ◌+◌, ◌<◌, ◌≤◌, ◌⊎◌, inl, inr, List, [], length, true, false, Option, Some, None}
use Rattle.std.proofs.Common.{ℤ, pos, negsuc, ◌<ℤ◌, ◌≤ℤ◌, refl, sym, ap, ◌∙◌, subst, arith}
use Rattle.std.proofs.lemmas.Bool.{cases_lt, cases_Bool}
use Rattle.std.proofs.lemmas.Int.{ints}
use Rattle.std.specs.Ordering.{nat_cmp}
use Rattle.std.specs.FinSet as set
use Rattle.bitset.specs.Members.{len_bound, from_meet, to_meet, from_union, to_union_left, to_union_right, from_minus, to_minus}
use Rattle.bitset.specs.Places.{IsWithin}
use Rattle.closure_flow.specs.declared.queue.Entry.{Entry}
use Rattle.closure_flow.specs.Closures.{parents_at}
use Rattle.closure_flow.specs.Networks.{IsAllowed}
use Rattle.closure_flow.specs.Queues.{place_at, from_at, Lists, Grows, IsBeyond, IsSearch, IsSwept, IsSealed}

-- what holds of a search of which some entries were taken
pub record Searching (n : ℕ) (parents : List (set.FinSet nat_cmp)) (within : set.FinSet nat_cmp) (flow : ℕ → ℕ → ℕ) (rest : ℕ → ℤ) (es : List Entry)
    (taken : ℕ) (seen : set.FinSet nat_cmp) : Type 0 where
  pub lists : Lists es seen
  pub below : IsWithin n seen
  pub inside : (t : ℕ) → set.contains seen t ≡ true → set.contains within t ≡ true
  pub search : IsSearch n parents within flow rest es
  pub swept : IsSwept n parents within flow rest es taken seen

-- positions behind the old ones are new
pub new_or_old : (old new : List Entry) (i : ℕ) → (i < length old) ⊎ (length old ≤ i)
new_or_old old new i = elim (cases_lt i (length old)) as (λ _. (i < length old) ⊎ (length old ≤ i))
    [ inl less ↦ inl less | inr more ↦ inr (omega (arith, more)) ]

pub searching_step : (n : ℕ) (parents : List (set.FinSet nat_cmp)) (within : set.FinSet nat_cmp) (flow : ℕ → ℕ → ℕ) (rest : ℕ → ℤ)
    (es es' : List Entry) (k : ℕ) (seen seen' next : set.FinSet nat_cmp)
    → IsAllowed n parents within flow
    → Searching n parents within flow rest es k seen → k < length es → pos 0 ≤ℤ rest (place_at es k)
    → IsBeyond n parents within flow seen (place_at es k) next
    → Lists es' seen' → IsWithin n seen' → Grows es es' next (Some k)
    → ((t : ℕ) → set.contains seen t ≡ true → set.contains seen' t ≡ true)
    → ((t : ℕ) → set.contains next t ≡ true → set.contains seen' t ≡ true)
    → ((t : ℕ) → set.contains seen' t ≡ true → (set.contains seen t ≡ true) ⊎ (set.contains next t ≡ true))
    → Searching n parents within flow rest es' (k + 1) seen'
searching_step n parents within flow rest es es' k seen seen' next allowed s hk content b l w g old new only =
    record {
      lists = l;
      below = w;
      inside = λ t m. elim (only t m) as (λ _. set.contains within t ≡ true) [ inl was ↦ s.inside t was | inr now ↦ next_inside t now ];
      search = record {
        inside = λ i h. elim (new_or_old es es' i) as (λ _. set.contains within (place_at es' i) ≡ true) [
          | inl was ↦ ap (λ (t : ℕ). set.contains within t) (g.kept i was).0 ∙ s.search.inside i was
          | inr now ↦ next_inside _ (g.added i now h).0
        ];
        below = λ i h. w _ (l.each i h);
        once = l.once;
        start = λ i h e. elim (new_or_old es es' i) as (λ _. pos 0 <ℤ rest (place_at es' i)) [
          | inl was ↦ subst (λ (t : ℕ). pos 0 <ℤ rest t) (sym (g.kept i was).0) (s.search.start i was (sym (g.kept i was).1 ∙ e))
          | inr now ↦ absurd (let f : Some k ≡ None = sym (g.added i now h).1 ∙ e in cc)
        ];
        step = λ i j h e. elim (new_or_old es es' i) as
            (λ _. (j < i) × ((set.contains (parents_at parents (place_at es' j)) (place_at es' i) ≡ true) ⊎ (0 < flow (place_at es' i) (place_at es' j)))) [
              | inl was ↦
                  let before = s.search.step i j was (sym (g.kept i was).1 ∙ e) in
                  let first : j < length es = omega (arith, before.0, was) in
                  (before.0, moved i j (sym (g.kept i was).0) (sym (g.kept j first).0) before.1)
              | inr now ↦
                  let same : Some j ≡ Some k = sym e ∙ (g.added i now h).1 in
                  let is : k ≡ j = cc in (
                    omega (arith, is, hk, now),
                    subst (λ (q : ℕ). (set.contains (parents_at parents (place_at es' q)) (place_at es' i) ≡ true) ⊎
                        (0 < flow (place_at es' i) (place_at es' q))) is
                        (subst (λ (t : ℕ). (set.contains (parents_at parents t) (place_at es' i) ≡ true) ⊎ (0 < flow (place_at es' i) t)) (sym (g.kept k hk).0)
                        (b.reached (place_at es' i) (g.added i now h).0)),
                  )
            ];
      };
      swept = record {
        starts = λ t m h. old t (s.swept.starts t m h);
        content = λ i h. elim (taken_or_this i h) as (λ _. pos 0 ≤ℤ rest (place_at es' i)) [
          | inl was ↦ subst (λ (t : ℕ). pos 0 ≤ℤ rest t) (sym (g.kept i (omega (arith, was, hk))).0) (s.swept.content i was)
          | inr this ↦ subst (λ (t : ℕ). pos 0 ≤ℤ rest t) (sym (this_place i this)) content
        ];
        along = λ i p h m q. elim (taken_or_this i h) as (λ _. set.contains seen' p ≡ true) [
          | inl was ↦ old p (s.swept.along i p was (ap (λ (t : ℕ). set.contains (parents_at parents t) p) (sym (g.kept i (omega (arith, was, hk))).0) ∙ m) q)
          | inr this ↦ either p (b.along p (ap (λ (t : ℕ). set.contains (parents_at parents t) p) (sym (this_place i this)) ∙ m) q)
        ];
        against = λ i c h hc m. elim (taken_or_this i h) as (λ _. set.contains seen' c ≡ true) [
          | inl was ↦ old c (s.swept.against i c was hc (subst (λ (t : ℕ). 0 < flow c t) (g.kept i (omega (arith, was, hk))).0 m))
          | inr this ↦ either c (b.against c hc (subst (λ (t : ℕ). 0 < flow c t) (this_place i this) m))
        ];
      };
    }
  where
    at_k : set.contains within (place_at es k) ≡ true
    at_k = s.search.inside k hk

    next_inside : (t : ℕ) → set.contains next t ≡ true → set.contains within t ≡ true
    next_inside t m = b.inside t m

    moved : (i j : ℕ) {x y : ℕ} → x ≡ place_at es' i → y ≡ place_at es' j → (set.contains (parents_at parents y) x ≡ true) ⊎ (0 < flow x y)
        → (set.contains (parents_at parents (place_at es' j)) (place_at es' i) ≡ true) ⊎ (0 < flow (place_at es' i) (place_at es' j))
    moved i j {x} {y} e f (inl m) = inl (subst (λ (t : ℕ). set.contains (parents_at parents (place_at es' j)) t ≡ true) e
        (subst (λ (t : ℕ). set.contains (parents_at parents t) x ≡ true) f m))
    moved i j {x} {y} e f (inr m) = inr (subst (λ (t : ℕ). 0 < flow t (place_at es' j)) e (subst (λ (t : ℕ). 0 < flow x t) f m))

    taken_or_this : (i : ℕ) → i < k + 1 → (i < k) ⊎ (i ≡ k)
    taken_or_this i h = elim (cases_lt i k) as (λ _. (i < k) ⊎ (i ≡ k)) [ inl less ↦ inl less | inr more ↦ inr (omega (arith, more, h)) ]

    this_place : (i : ℕ) → i ≡ k → place_at es' i ≡ place_at es k
    this_place i e = ap (λ (q : ℕ). place_at es' q) e ∙ (g.kept k hk).0

    either : (t : ℕ) → (set.contains seen t ≡ true) ⊎ (set.contains next t ≡ true) → set.contains seen' t ≡ true
    either t (inl m) = old t m
    either t (inr m) = new t m

pub searching_end : (n : ℕ) (parents : List (set.FinSet nat_cmp)) (within : set.FinSet nat_cmp) (flow : ℕ → ℕ → ℕ) (rest : ℕ → ℤ) (es : List Entry)
    (k : ℕ) (seen : set.FinSet nat_cmp)
    → Searching n parents within flow rest es k seen → k ≡ length es → IsSealed n parents within flow rest seen
searching_end n parents within flow rest es k seen s all =
    record {
      inside = s.inside;
      some = λ t m.
          let f = s.lists.only t m in
          first (omega (arith, f.1)) (from_at es 0) refl;
      starts = s.swept.starts;
      content = λ t m.
          let f = s.lists.only t m in
          subst (λ (x : ℕ). pos 0 ≤ℤ rest x) f.2 (s.swept.content f.0 (taken f.0 f.1));
      along = λ t p m a b.
          let f = s.lists.only t m in
          s.swept.along f.0 p (taken f.0 f.1) (ap (λ (x : ℕ). set.contains (parents_at parents x) p) f.2 ∙ a) b;
      against = λ t c m h a.
          let f = s.lists.only t m in
          s.swept.against f.0 c (taken f.0 f.1) h (subst (λ (x : ℕ). 0 < flow c x) (sym f.2) a);
    }
  where
    first : 0 < length es → (o : Option ℕ) → from_at es 0 ≡ o → (u : ℕ) × (set.contains within u ≡ true) × (pos 0 <ℤ rest u)
    first h None e = (place_at es 0, s.search.inside 0 h, s.search.start 0 h e)
    first h (Some j) e = absurd (omega (arith, (s.search.step 0 j h e).0))

    taken : (i : ℕ) → i < length es → i < k
    taken i h = omega (arith, h, all)

-- an entry that isn't taken yet leaves work
pub some_left : (n : ℕ) (parents : List (set.FinSet nat_cmp)) (within : set.FinSet nat_cmp) (flow : ℕ → ℕ → ℕ) (rest : ℕ → ℤ) (es : List Entry)
    (k : ℕ) (seen : set.FinSet nat_cmp)
    → Searching n parents within flow rest es k seen → k < length es → k < n
some_left n parents within flow rest es k seen s h = omega (arith, h, s.lists.count, len_bound n seen s.below)

-- what isn't below 0
pub not_short : (z : ℤ) → (z <ℤ pos 0 → ⊥) → pos 0 ≤ℤ z
not_short z h = elim (cases_lt_z z) as (λ _. pos 0 ≤ℤ z) [ inl low ↦ absurd (h low) | inr rest ↦ rest ]
  where
    cases_lt_z : (y : ℤ) → (y <ℤ pos 0) ⊎ (pos 0 ≤ℤ y)
    cases_lt_z (pos n) = inr (omega (arith, ints))
    cases_lt_z (negsuc n) = inl (omega (arith, ints))

-- ---- one step from a place
pub beyond_is : (n : ℕ) (parents : List (set.FinSet nat_cmp)) (within : set.FinSet nat_cmp) (flow : ℕ → ℕ → ℕ)
    (seen up down met all next : set.FinSet nat_cmp) (t : ℕ)
    → IsAllowed n parents within flow → set.contains within t ≡ true
    → ((q : ℕ) → set.contains (parents_at parents t) q ≡ set.contains up q)
    → ((c : ℕ) → set.contains down c ≡ true → (c < n) × (0 < flow c t))
    → ((c : ℕ) → 0 < flow c t → set.contains down c ≡ true)
    → met ≡ set.intersection up within → all ≡ set.union met down → next ≡ set.difference all seen
    → IsBeyond n parents within flow seen t next
beyond_is n parents within flow seen up down met all next t allowed here ups senders back em ea en =
    record {
      inside = λ u m. elim (either u m) as (λ _. set.contains within u ≡ true) [
        | inl a ↦ a.1
        | inr f ↦ (allowed u t (senders u f).0 here (senders u f).1).0
      ];
      apart = λ u m. (parts u m).1;
      reached = λ u m. elim (either u m) as (λ _. (set.contains (parents_at parents t) u ≡ true) ⊎ (0 < flow u t)) [
        | inl a ↦ inl (ups u ∙ a.0)
        | inr f ↦ inr (senders u f).1
      ];
      along = λ p m w. new p (subst (λ s. set.contains s p ≡ true) (sym ea)
          (to_union_left met down p (subst (λ s. set.contains s p ≡ true) (sym em) (to_meet up within p (sym (ups p) ∙ m) w))));
      against = λ c h f. new c (subst (λ s. set.contains s c ≡ true) (sym ea) (to_union_right met down c (back c f)));
    }
  where
    parts : (u : ℕ) → set.contains next u ≡ true → (set.contains all u ≡ true) × (set.contains seen u ≡ false)
    parts u m = from_minus all seen u (subst (λ s. set.contains s u ≡ true) en m)

    either : (u : ℕ) → set.contains next u ≡ true → ((set.contains up u ≡ true) × (set.contains within u ≡ true)) ⊎ (set.contains down u ≡ true)
    either u m = elim (from_union met down u (subst (λ s. set.contains s u ≡ true) ea (parts u m).0)) as
        (λ _. ((set.contains up u ≡ true) × (set.contains within u ≡ true)) ⊎ (set.contains down u ≡ true)) [
          | inl a ↦ inl (from_meet up within u (subst (λ s. set.contains s u ≡ true) em a))
          | inr b ↦ inr b
        ]

    new : (u : ℕ) → set.contains all u ≡ true → (set.contains seen u ≡ true) ⊎ (set.contains next u ≡ true)
    new u m = elim (cases_Bool (set.contains seen u)) as (λ _. (set.contains seen u ≡ true) ⊎ (set.contains next u ≡ true)) [
      | inl yes_ ↦ inl yes_
      | inr fresh ↦ inr (subst (λ s. set.contains s u ≡ true) (sym en) (to_minus all seen u m fresh))
    ]
