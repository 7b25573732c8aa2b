-- Sending along a path, one pair at a time, and what it leaves.
use Rattle.std.proofs.Common.{◌≡◌, ℕ, zero, suc, ◌+◌, ◌<◌, ◌≤◌, ◌⊎◌, inl, inr, List, ◌∷◌, length, Bool, true, false}
use Rattle.std.proofs.Common.{cond, min, nat_eq, Option, Some, None, MatchOption, ℤ, pos, negsuc, ◌+ℤ◌, ◌-ℤ◌, neg_ℤ}
use Rattle.std.proofs.Common.{◌≤ℤ◌, ◌<ℤ◌, unsigned_abs, refl, sym, ap, ◌∙◌, subst, arith}
use Rattle.std.proofs.lemmas.Bool.{cases_eq}
use Rattle.std.proofs.lemmas.Int.{ints}
use Rattle.std.specs.List.{filter, range_with_len}
use Rattle.std.specs.Ordering.{nat_cmp}
use Rattle.std.specs.FinSet as set
use Rattle.lists.proofs.Cases.{clash}
use Rattle.lists.proofs.Told.{cases_two}
use Rattle.bitset.specs.Places.{IsWithin, places}
use Rattle.bitset.specs.Sets.{IsRising-places}
use Rattle.closure_flow.specs.declared.queue.Entry.{Entry}
use Rattle.closure_flow.specs.Closures.{parents_at}
use Rattle.closure_flow.specs.Flows.{Among, net, only_at}
use Rattle.closure_flow.specs.Networks.{Fits, IsAllowed, LetsThrough, PathLets, Pushes, Sends}
use Rattle.closure_flow.specs.Queues.{place_at, from_at, IsSearch}
use Rattle.closure_flow.proofs.Lists.{net_bump}

-- ---- the places of a set as a list
keep_among : (b : Bool) (x k : ℕ) (ys : List ℕ) → Among k ys → Among k (cond b (x ∷ ys) ys)
keep_among true x k ys h = inr h
keep_among false x k ys h = h

keep_this : (b : Bool) (x k : ℕ) (ys : List ℕ) → b ≡ true → k ≡ x → Among k (cond b (x ∷ ys) ys)
keep_this true x k ys e h = inl h
keep_this false x k ys e h = absurd (let f : false ≡ true = e in cc)

among_filter : (p : ℕ → Bool) (a n k : ℕ) → a ≤ k → k < a + n → p k ≡ true → Among k (filter p (range_with_len a n))
among_filter p a zero k h l m = absurd (omega arith)
among_filter p a (suc n) k h l m =
    elim (cases_eq k a) as (λ _. Among k (filter p (range_with_len a (suc n)))) [
      | inl e ↦ keep_this (p a) a k (filter p (range_with_len (a + 1) n)) (ap p (sym e) ∙ m) e
      | inr ne ↦ keep_among (p a) a k (filter p (range_with_len (a + 1) n)) (among_filter p (a + 1) n k (omega arith) (omega arith) m)
    ]

pub among_places : (n : ℕ) (s : set.FinSet nat_cmp) (k : ℕ) → k < n → set.contains s k ≡ true → Among k (places n s)
among_places n s k h m = among_filter (set.contains s) 0 n k (omega arith) (omega arith) m

kept_from : (p : ℕ → Bool) (b : Bool) (x k a n : ℕ) (ys : List ℕ) → p x ≡ b → x < a + n → (Among k ys → (k < a + n) × (p k ≡ true))
    → Among k (cond b (x ∷ ys) ys) → (k < a + n) × (p k ≡ true)
kept_from p true x k a n ys e l rest (inl same) = (subst (λ (y : ℕ). y < a + n) (sym same) l, ap p same ∙ e)
kept_from p true x k a n ys e l rest (inr h) = rest h
kept_from p false x k a n ys e l rest h = rest h

filter_among : (p : ℕ → Bool) (a n k : ℕ) → Among k (filter p (range_with_len a n)) → (k < a + n) × (p k ≡ true)
filter_among p a zero k h = absurd h
filter_among p a (suc n) k h =
    kept_from p (p a) a k a (suc n) (filter p (range_with_len (a + 1) n)) refl (omega arith)
    (λ m. let f = filter_among p (a + 1) n k m in (omega (arith, f.0), f.1)) h

pub places_among : (n : ℕ) (s : set.FinSet nat_cmp) (k : ℕ) → Among k (places n s) → (k < n) × (set.contains s k ≡ true)
places_among n s k h = let f = filter_among (set.contains s) 0 n k h in (omega (arith, f.0), f.1)

-- ---- one pair's flow changed
only_at-neg : (k : ℕ) (x : ℤ) (t : ℕ) → only_at k (neg_ℤ x) t ≡ neg_ℤ (only_at k x t)
only_at-neg k x t = by (nat_eq t k)
  where
    by : (b : Bool) → cond b (neg_ℤ x) (pos 0) ≡ neg_ℤ (cond b x (pos 0))
    by true = refl
    by false = refl

-- the flow of one pair changed, along it or taken back
pub pushes : (n : ℕ) (parents : List (set.FinSet nat_cmp)) (within : set.FinSet nat_cmp) (G H : ℕ → ℕ → ℕ) (from to amount a b : ℕ) (d : ℤ)
    → IsWithin n within → IsAllowed n parents within G
    → set.contains within from ≡ true → set.contains within to ≡ true → (from ≡ to → ⊥)
    → ((a ≡ from) × (b ≡ to) × (d ≡ pos amount)) ⊎ ((a ≡ to) × (b ≡ from) × (d ≡ neg_ℤ (pos amount)))
    → pos (H a b) ≡ pos (G a b) +ℤ d
    → ((c p : ℕ) → c < n → p < n → ((c ≡ a) × (p ≡ b) → ⊥) → H c p ≡ G c p)
    → (0 < H a b → set.contains (parents_at parents a) b ≡ true)
    → Pushes n parents within G H from to amount
pushes n parents within G H from to amount a b d below old u_in v_in other way here others pair =
    record { moved = moved; more = more; others = apart; allowed = allowed }
  where
    ts : List ℕ
    ts = places n within

    a_in : set.contains within a ≡ true
    a_in = elim way as (λ _. set.contains within a ≡ true)
        [ inl f ↦ ap (λ (x : ℕ). set.contains within x) f.0 ∙ u_in | inr f ↦ ap (λ (x : ℕ). set.contains within x) f.0 ∙ v_in ]

    b_in : set.contains within b ≡ true
    b_in = elim way as (λ _. set.contains within b ≡ true)
        [ inl f ↦ ap (λ (x : ℕ). set.contains within x) f.1 ∙ v_in | inr f ↦ ap (λ (x : ℕ). set.contains within x) f.1 ∙ u_in ]

    a_not_b : a ≡ b → ⊥
    a_not_b e = elim way as (λ _. ⊥) [ inl f ↦ other (sym f.0 ∙ e ∙ f.1) | inr f ↦ other (sym f.1 ∙ sym e ∙ f.0) ]

    bump : (t : ℕ) → set.contains within t ≡ true → net ts H t ≡ (net ts G t +ℤ only_at a d t) -ℤ only_at b d t
    bump t m =
        net_bump ts G H a b d (IsRising-places n within)
        (among_places n within a (below a a_in) a_in) (among_places n within b (below b b_in) b_in) a_not_b here
        (λ c p hc hp out. others c p (places_among n within c hc).0 (places_among n within p hp).0 out)
        t (among_places n within t (below t m) m)

    turned : (t : ℕ) → only_at a d t -ℤ only_at b d t ≡ only_at from (pos amount) t -ℤ only_at to (pos amount) t
    turned t = elim way as (λ _. only_at a d t -ℤ only_at b d t ≡ only_at from (pos amount) t -ℤ only_at to (pos amount) t) [
      | inl f ↦ along f.0 f.1 f.2
      | inr f ↦ against f.0 f.1 f.2
    ]
      where
        along : a ≡ from → b ≡ to → d ≡ pos amount → only_at a d t -ℤ only_at b d t ≡ only_at from (pos amount) t -ℤ only_at to (pos amount) t
        along e f q =
            ap (λ (x : ℕ). only_at x d t -ℤ only_at b d t) e ∙ ap (λ (y : ℕ). only_at from d t -ℤ only_at y d t) f
            ∙ ap (λ (z : ℤ). only_at from z t -ℤ only_at to z t) q

        against : a ≡ to → b ≡ from → d ≡ neg_ℤ (pos amount) → only_at a d t -ℤ only_at b d t ≡ only_at from (pos amount) t -ℤ only_at to (pos amount) t
        against e f q =
            ap (λ (x : ℕ). only_at x d t -ℤ only_at b d t) e ∙ ap (λ (y : ℕ). only_at to d t -ℤ only_at y d t) f
            ∙ ap (λ (z : ℤ). only_at to z t -ℤ only_at from z t) q
            ∙ omega (arith, ints, only_at-neg to (pos amount) t, only_at-neg from (pos amount) t)

    moved : (t : ℕ) → set.contains within t ≡ true → net ts H t ≡ (net ts G t +ℤ only_at from (pos amount) t) -ℤ only_at to (pos amount) t
    moved t m = joined (net ts H t) (net ts G t) (only_at a d t) (only_at b d t) (only_at from (pos amount) t) (only_at to (pos amount) t) (bump t m) (turned t)
      where
        joined : (x y o q w k : ℤ) → x ≡ (y +ℤ o) -ℤ q → o -ℤ q ≡ w -ℤ k → x ≡ (y +ℤ w) -ℤ k
        joined x y o q w k e f = omega (arith, ints, e, f)

    grown : H a b ≤ G a b + amount
    grown = elim way as (λ _. H a b ≤ G a b + amount) [
      | inl f ↦ larger (H a b) (G a b) d here f.2
      | inr f ↦ smaller (H a b) (G a b) d here f.2
    ]
      where
        larger : (x y : ℕ) (e : ℤ) → pos x ≡ pos y +ℤ e → e ≡ pos amount → x ≤ y + amount
        larger x y e k q = omega (arith, ints, k, q)

        smaller : (x y : ℕ) (e : ℤ) → pos x ≡ pos y +ℤ e → e ≡ neg_ℤ (pos amount) → x ≤ y + amount
        smaller x y e k q = omega (arith, ints, k, q)

    more : (c p : ℕ) → c < n → p < n → H c p ≤ G c p + amount
    more c p m k = elim (cases_two c p a b) as (λ _. H c p ≤ G c p + amount) [
      | inl e ↦ subst (λ (x : ℕ). H x p ≤ G x p + amount) (sym e.0) (subst (λ (y : ℕ). H a y ≤ G a y + amount) (sym e.1) grown)
      | inr ne ↦ omega (arith, others c p m k ne)
    ]

    apart : (c p : ℕ) → c < n → p < n → ((c ≡ from) × (p ≡ to) → ⊥) → ((c ≡ to) × (p ≡ from) → ⊥) → H c p ≡ G c p
    apart c p m k x y = others c p m k (λ q. elim way as (λ _. ⊥) [ inl f ↦ x (q.0 ∙ f.0, q.1 ∙ f.1) | inr f ↦ y (q.0 ∙ f.0, q.1 ∙ f.1) ])

    allowed : IsAllowed n parents within H
    allowed c p m k f = elim (cases_two c p a b) as (λ _. (set.contains within c ≡ true) × (set.contains (parents_at parents c) p ≡ true)) [
      | inl e ↦ (
        ap (λ (x : ℕ). set.contains within x) e.0 ∙ a_in,
        subst (λ (x : ℕ). set.contains (parents_at parents x) p ≡ true) (sym e.0)
            (subst (λ (y : ℕ). set.contains (parents_at parents a) y ≡ true) (sym e.1)
            (pair (subst (λ (y : ℕ). 0 < H a y) e.1 (subst (λ (x : ℕ). 0 < H x p) e.0 f)))),
      )
      | inr ne ↦ old c p m k (subst (λ (x : ℕ). 0 < x) (others c p m (below p k) ne) f)
    ]

-- ---- along a path, from its end back to its start
pub sends_none : (n : ℕ) (parents : List (set.FinSet nat_cmp)) (within : set.FinSet nat_cmp) (F : ℕ → ℕ → ℕ) (es : List Entry) (at amount : ℕ)
    → IsAllowed n parents within F → Sends n parents within F F es at at amount
sends_none n parents within F es at amount allowed =
    record {
      moved = λ t m. same (net (places n within) F t) (only_at (place_at es at) (pos amount) t);
      more = λ c p m k. omega arith;
      still =
          λ i j h k. refl;
      allowed = allowed;
    }
  where
    same : (x y : ℤ) → x ≡ (x +ℤ y) -ℤ y
    same x y = omega (arith, ints)

pub sends_step : (n : ℕ) (parents : List (set.FinSet nat_cmp)) (within : set.FinSet nat_cmp) (F G H : ℕ → ℕ → ℕ) (rest : ℕ → ℤ) (es : List Entry)
    (at here before amount : ℕ)
    → IsWithin n within → IsSearch n parents within F rest es → here < length es → before < here
    → Sends n parents within F G es at here amount → Pushes n parents within G H (place_at es before) (place_at es here) amount
    → Sends n parents within F H es at before amount
sends_step n parents within F G H rest es at here before amount below s h lt sent push =
    record { moved = moved; more = more; still = still; allowed = push.allowed }
  where
    first : before < length es
    first = omega (arith, lt, h)

    moved : (t : ℕ) → set.contains within t ≡ true
        → net (places n within) H t ≡ (net (places n within) F t +ℤ only_at (place_at es before) (pos amount) t) -ℤ only_at (place_at es at) (pos amount) t
    moved t m = joined (net (places n within) H t) (net (places n within) G t) (net (places n within) F t)
        (only_at (place_at es before) (pos amount) t) (only_at (place_at es here) (pos amount) t) (only_at (place_at es at) (pos amount) t)
        (push.moved t m) (sent.moved t m)
      where
        joined : (x y z u v w : ℤ) → x ≡ (y +ℤ u) -ℤ v → y ≡ (z +ℤ v) -ℤ w → x ≡ (z +ℤ u) -ℤ w
        joined x y z u v w e f = omega (arith, ints, e, f)

    still : (i j : ℕ) → i ≤ before → j ≤ before → H (place_at es i) (place_at es j) ≡ F (place_at es i) (place_at es j)
    still i j hi hj =
        let li : i < length es = omega (arith, hi, first) in
        let lj : j < length es = omega (arith, hj, first) in
        push.others (place_at es i) (place_at es j) (s.below i li) (s.below j lj)
        (λ q. omega (arith, s.once j here lj h q.1, hj, lt)) (λ q. omega (arith, s.once i here li h q.0, hi, lt))
        ∙ sent.still i j (omega (arith, hi, lt)) (omega (arith, hj, lt))

    at_pair : (i j : ℕ) → i ≤ here → j ≤ here → H (place_at es i) (place_at es j) ≤ F (place_at es i) (place_at es j) + amount
    at_pair i j hi hj =
        omega (arith, push.more (place_at es i) (place_at es j) (s.below i (omega (arith, hi, h))) (s.below j (omega (arith, hj, h))), sent.still i j hi hj)

    more : (c p : ℕ) → set.contains within c ≡ true → set.contains within p ≡ true → H c p ≤ F c p + amount
    more c p m k = elim (cases_two c p (place_at es before) (place_at es here)) as (λ _. H c p ≤ F c p + amount) [
      | inl e ↦ subst (λ (x : ℕ). H x p ≤ F x p + amount) (sym e.0)
          (subst (λ (y : ℕ). H (place_at es before) y ≤ F (place_at es before) y + amount) (sym e.1) (at_pair before here (omega (arith, lt)) (omega arith)))
      | inr ne ↦ elim (cases_two c p (place_at es here) (place_at es before)) as (λ _. H c p ≤ F c p + amount) [
        | inl e ↦ subst (λ (x : ℕ). H x p ≤ F x p + amount) (sym e.0)
            (subst (λ (y : ℕ). H (place_at es here) y ≤ F (place_at es here) y + amount) (sym e.1) (at_pair here before (omega arith) (omega (arith, lt))))
        | inr nf ↦ omega (arith, push.others c p (below c m) (below p k) ne nf, sent.more c p m k)
      ]
    ]

-- ---- what a path lets through
pub fits_start : (parents : List (set.FinSet nat_cmp)) (flow : ℕ → ℕ → ℕ) (rest : ℕ → ℤ) (es : List Entry) (i amount : ℕ) → from_at es i ≡ None
    → pos amount ≤ℤ rest (place_at es i) → Fits parents flow rest es i amount
fits_start parents flow rest es i amount none enough =
    record {
      steps = 1;
      lets = subst (λ (o : Option ℕ). MatchOption o (pos amount ≤ℤ rest (place_at es i))
          (λ j. LetsThrough parents flow amount (place_at es j) (place_at es i) × PathLets parents flow rest es amount 0 j)) (sym none) enough;
    }

pub fits_step : (parents : List (set.FinSet nat_cmp)) (flow : ℕ → ℕ → ℕ) (rest : ℕ → ℤ) (es : List Entry) (i j amount : ℕ) → from_at es i ≡ Some j
    → LetsThrough parents flow amount (place_at es j) (place_at es i) → Fits parents flow rest es j amount → Fits parents flow rest es i amount
fits_step parents flow rest es i j amount some lets before =
    record {
      steps = suc before.steps;
      lets = subst (λ (o : Option ℕ). MatchOption o (pos amount ≤ℤ rest (place_at es i))
          (λ k. LetsThrough parents flow amount (place_at es k) (place_at es i) × PathLets parents flow rest es amount before.steps k)) (sym some)
          (lets, before.lets);
    }

lets_at : (parents : List (set.FinSet nat_cmp)) (flow : ℕ → ℕ → ℕ) (rest : ℕ → ℤ) (es : List Entry) (i amount k : ℕ) → PathLets parents flow rest es amount k i
    → (m : ℕ) × MatchOption (from_at es i) (pos amount ≤ℤ rest (place_at es i))
    (λ j. LetsThrough parents flow amount (place_at es j) (place_at es i) × PathLets parents flow rest es amount m j)
lets_at parents flow rest es i amount zero l = absurd l
lets_at parents flow rest es i amount (suc k) l = (k, l)

pub fits_enough : (parents : List (set.FinSet nat_cmp)) (flow : ℕ → ℕ → ℕ) (rest : ℕ → ℤ) (es : List Entry) (i amount : ℕ)
    → Fits parents flow rest es i amount → from_at es i ≡ None → pos amount ≤ℤ rest (place_at es i)
fits_enough parents flow rest es i amount f none =
    let l = lets_at parents flow rest es i amount f.steps f.lets in
    subst (λ (o : Option ℕ). MatchOption o (pos amount ≤ℤ rest (place_at es i))
    (λ j. LetsThrough parents flow amount (place_at es j) (place_at es i) × PathLets parents flow rest es amount l.0 j)) none l.1

pub fits_next : (parents : List (set.FinSet nat_cmp)) (flow : ℕ → ℕ → ℕ) (rest : ℕ → ℤ) (es : List Entry) (i j amount : ℕ)
    → Fits parents flow rest es i amount → from_at es i ≡ Some j
    → LetsThrough parents flow amount (place_at es j) (place_at es i) × Fits parents flow rest es j amount
fits_next parents flow rest es i j amount f some =
    let l = lets_at parents flow rest es i amount f.steps f.lets in
    let both = subst (λ (o : Option ℕ). MatchOption o (pos amount ≤ℤ rest (place_at es i))
    (λ k. LetsThrough parents flow amount (place_at es k) (place_at es i) × PathLets parents flow rest es amount l.0 k)) some l.1 in
    (both.0, record { steps = l.0; lets = both.1 })

pub lets_less : (parents : List (set.FinSet nat_cmp)) (flow : ℕ → ℕ → ℕ) (less amount from to : ℕ) → less ≤ amount
    → LetsThrough parents flow amount from to → LetsThrough parents flow less from to
lets_less parents flow less amount from to h (inl m) = inl m
lets_less parents flow less amount from to h (inr m) = inr (omega (arith, h, m))

-- what still lets an amount through when the flows among the entries before are as they were
pub lets_still : (parents : List (set.FinSet nat_cmp)) (F G : ℕ → ℕ → ℕ) (amount from to : ℕ) → G to from ≡ F to from
    → LetsThrough parents F amount from to → LetsThrough parents G amount from to
lets_still parents F G amount from to e (inl m) = inl m
lets_still parents F G amount from to e (inr m) = inr (omega (arith, e, m))

-- a step between two places, under other names for them
pub along_step : (parents : List (set.FinSet nat_cmp)) (flow : ℕ → ℕ → ℕ) {u v a b : ℕ} → u ≡ a → v ≡ b
    → (set.contains (parents_at parents u) v ≡ true) ⊎ (0 < flow v u) → (set.contains (parents_at parents a) b ≡ true) ⊎ (0 < flow b a)
along_step parents flow {u} {v} {a} {b} e f step =
    subst (λ (x : ℕ). (set.contains (parents_at parents x) b ≡ true) ⊎ (0 < flow b x)) e
    (subst (λ (y : ℕ). (set.contains (parents_at parents u) y ≡ true) ⊎ (0 < flow y u)) f step)

-- what a start has left
pub start_left : (z : ℤ) (m : ℕ) → m ≡ unsigned_abs z → pos 0 <ℤ z → (pos m ≤ℤ z) × (0 < m)
start_left (pos k) m e h = (omega (arith, ints, e), omega (arith, ints, e, h))
start_left (negsuc k) m e h = absurd (omega (arith, ints, h))

pub against_only : (parents : List (set.FinSet nat_cmp)) (flow : ℕ → ℕ → ℕ) (amount from to : ℕ) → LetsThrough parents flow amount from to
    → set.contains (parents_at parents from) to ≡ false → amount ≤ flow to from
against_only parents flow amount from to (inl m) n = clash _ m n
against_only parents flow amount from to (inr m) n = m

-- the least of a limit and of what the start has left
pub enough_of : (z : ℤ) (m limit : ℕ) → m ≡ unsigned_abs z → pos 0 <ℤ z → pos (min limit m) ≤ℤ z
enough_of z m limit e h = let l = start_left z m e h in omega (arith, ints, l.0)
