-- Sending along the path to an entry, step by step, and what it uses up.
use Rattle.std.proofs.Common.{◌≡◌, ℕ, zero, suc, ◌+◌, ◌-◌, ◌<◌, ◌≤◌, ◌⊎◌, inl, inr, List, length, true, false, min}
use Rattle.std.proofs.Common.{unsigned_abs, Option, Some, None, ℤ, pos, negsuc, neg_ℤ, ◌<ℤ◌, refl, sym}
use Rattle.std.proofs.Common.{ap, ◌∙◌, subst, arith}
use Rattle.std.proofs.lemmas.Bool.{cases_lt}
use Rattle.std.proofs.lemmas.Int.{ints}
use Rattle.std.specs.Ordering.{nat_cmp}
use Rattle.std.specs.FinSet as set
use Rattle.bitset.specs.Places.{IsWithin}
use Rattle.closure_flow.specs.declared.queue.Entry.{Entry}
use Rattle.closure_flow.specs.Closures.{parents_at}
use Rattle.closure_flow.specs.Labels.{IsNarrowest, IsStart, IsStep, back, before_of}
use Rattle.closure_flow.specs.Networks.{Pushes, Sends}
use Rattle.closure_flow.specs.Queues.{place_at, from_at, IsSearch}
use Rattle.closure_flow.proofs.Labellings.{Along, UsesUp}
use Rattle.closure_flow.proofs.Levels.{back_below}
use Rattle.closure_flow.proofs.Steadiness.{Moves, at_start, at_end, over, short}

-- ---- positions back along a path
pub back_step : (es : List Entry) (at k i j : ℕ) → i ≡ back es at k → from_at es i ≡ Some j → j ≡ back es at (suc k)
back_step es at k i j is e = sym (ap (λ (o : Option ℕ). before_of o (back es at k)) (ap (from_at es) (sym is) ∙ e))

stuck : (es : List Entry) (at k m : ℕ) → from_at es (back es at k) ≡ None → back es at (k + m) ≡ back es at k
stuck es at k zero none = ap (back es at) (omega arith)
stuck es at k (suc m) none =
    let so_far = stuck es at k m none in
    let next : k + suc m ≡ suc (k + m) = omega arith in
    ap (back es at) next ∙ ap (λ (o : Option ℕ). before_of o (back es at (k + m))) (ap (from_at es) so_far ∙ none) ∙ so_far

one_start : (es : List Entry) (at i j : ℕ) → IsStart es at i → IsStart es at j → i ≡ j
one_start es at i j a b = elim (cases_lt a.k b.k) as (λ _. i ≡ j) [
  | inl less ↦ sym (ordered i j a b (omega (arith, less)))
  | inr more ↦ ordered j i b a more
]
  where
    ordered : (x y : ℕ) (p : IsStart es at x) (q : IsStart es at y) → p.k ≤ q.k → y ≡ x
    ordered x y p q h =
        let along : p.k + (q.k - p.k) ≡ q.k = omega (arith, h) in
        q.is ∙ ap (back es at) (sym along) ∙ stuck es at p.k (q.k - p.k) (ap (from_at es) (sym p.is) ∙ p.none) ∙ sym p.is

module _ (n : ℕ) (parents : List (set.FinSet nat_cmp)) (within : set.FinSet nat_cmp) (flow : ℕ → ℕ → ℕ) (rest : ℕ → ℤ) (es : List Entry) (at : ℕ)
    (s : IsSearch n parents within flow rest es) (h : at < length es) where
  back_inside : (k : ℕ) → back es at k < length es
  back_inside k = omega (arith, back_below n parents within flow rest es at k s h, h)

  pub down : (k m : ℕ) → back es at (k + m) ≤ back es at k
  down k zero = omega (arith, ap (back es at) (let e : k + 0 ≡ k = omega arith in e))
  down k (suc m) = by (down k m) (from_at es (back es at (k + m))) refl
    where
      next : k + suc m ≡ suc (k + m)
      next = omega arith

      by : back es at (k + m) ≤ back es at k → (o : Option ℕ) → from_at es (back es at (k + m)) ≡ o → back es at (k + suc m) ≤ back es at k
      by so_far None e = omega (arith, so_far, ap (back es at) next, ap (λ (o : Option ℕ). before_of o (back es at (k + m))) e)
      by so_far (Some j) e =
          omega (
            arith,
            so_far,
            (s.step (back es at (k + m)) j (back_inside (k + m)) e).0,
            ap (back es at) next,
            ap (λ (o : Option ℕ). before_of o (back es at (k + m))) e,
          )

  -- the places of a step are apart from each entry before it
  pub step_in : (u v : ℕ) → IsStep es at u v → (set.contains within u ≡ true) × (set.contains within v ≡ true)
  step_in u v step = (
    subst (λ (t : ℕ). set.contains within t ≡ true) (sym step.first) (s.inside _ (back_inside (suc step.k))),
    subst (λ (t : ℕ). set.contains within t ≡ true) (sym step.next) (s.inside _ (back_inside step.k)),
  )

  pub lower : (u v : ℕ) (step : IsStep es at u v) → back es at (suc step.k) < back es at step.k
  lower u v step = (s.step _ _ (back_inside step.k) step.found).0

-- ---- in the course of it: some steps were sent along, from the end back to an entry
pub record Sent (parents : List (set.FinSet nat_cmp)) (within : set.FinSet nat_cmp) (F G : ℕ → ℕ → ℕ) (es : List Entry) (at here amount : ℕ) : Type 0 where
  pub k : ℕ
  pub is : here ≡ back es at k
  pub grown : (c p : ℕ) → set.contains within c ≡ true → set.contains within p ≡ true → F c p < G c p → IsStep es at c p
  pub taken : (u v : ℕ) (step : IsStep es at u v) → step.k < k → set.contains (parents_at parents u) v ≡ false → G v u + amount ≡ F v u

pub sent_step : (n : ℕ) (parents : List (set.FinSet nat_cmp)) (within : set.FinSet nat_cmp) (F G H : ℕ → ℕ → ℕ) (rest : ℕ → ℤ) (es : List Entry)
    (at here before amount : ℕ)
    → IsWithin n within → IsSearch n parents within F rest es → at < length es → from_at es here ≡ Some before
    → Sends n parents within F G es at here amount → Sent parents within F G es at here amount
    → Pushes n parents within G H (place_at es before) (place_at es here) amount
    → ((c p : ℕ) → c < n → p < n → G c p < H c p → (c ≡ place_at es before) × (p ≡ place_at es here))
    → (set.contains (parents_at parents (place_at es before)) (place_at es here) ≡ false
    → H (place_at es here) (place_at es before) + amount ≡ G (place_at es here) (place_at es before))
    → Sent parents within F H es at before amount
sent_step n parents within F G H rest es at here before amount below s h from sends sent push more back_flow =
    record { k = suc sent.k; is = next; grown = grown; taken = taken }
  where
    next : before ≡ back es at (suc sent.k)
    next = back_step es at sent.k here before sent.is from

    low : here ≤ at
    low = omega (arith, sent.is, back_below n parents within F rest es at sent.k s h)

    in_here : here < length es
    in_here = omega (arith, low, h)

    less : before < here
    less = (s.step here before in_here from).0

    this : IsStep es at (place_at es before) (place_at es here)
    this = record {
      k = sent.k;
      found = ap (from_at es) (sym sent.is) ∙ from ∙ ap (λ (i : ℕ). Some i) next;
      first = ap (place_at es) next;
      next =
          ap (place_at es) sent.is;
    }

    grown : (c p : ℕ) → set.contains within c ≡ true → set.contains within p ≡ true → F c p < H c p → IsStep es at c p
    grown c p mc mp g = elim (cases_lt (F c p) (G c p)) as (λ _. IsStep es at c p) [
      | inl now ↦ sent.grown c p mc mp now
      | inr no_more ↦
          let is = more c p (below c mc) (below p mp) (omega (arith, g, no_more)) in
          subst (λ (x : ℕ). IsStep es at x p) (sym is.0) (subst (λ (y : ℕ). IsStep es at (place_at es before) y) (sym is.1) this)
    ]

    taken : (u v : ℕ) (step : IsStep es at u v) → step.k < suc sent.k → set.contains (parents_at parents u) v ≡ false → H v u + amount ≡ F v u
    taken u v step l out = elim (cases_lt step.k sent.k) as (λ _. H v u + amount ≡ F v u) [
      | inl earlier ↦
          let both = step_in n parents within F rest es at s h u v step in
          let high : here < back es at step.k = omega (arith, sent.is, lower n parents within F rest es at s h u v step, above step.k earlier) in
          let in_step : back es at step.k < length es = omega (arith, h, back_below n parents within F rest es at step.k s h) in
          let not_here : v ≡ place_at es here → ⊥ = λ e. omega (arith, high, s.once (back es at step.k) here in_step in_here (sym step.next ∙ e)) in
          let not_before : v ≡ place_at es before → ⊥ =
          λ e. omega (arith, high, less, s.once (back es at step.k) before in_step (omega (arith, less, in_here)) (sym step.next ∙ e)) in
          omega (arith, push.others v u (below v both.1) (below u both.0) (λ q. not_before q.0) (λ q. not_here q.0), sent.taken u v step earlier out)
      | inr late ↦
          let same : step.k ≡ sent.k = omega (arith, l, late) in
          let eu : u ≡ place_at es before = step.first ∙ ap (λ (m : ℕ). place_at es (back es at (suc m))) same ∙ ap (place_at es) (sym next) in
          let ev : v ≡ place_at es here = step.next ∙ ap (λ (m : ℕ). place_at es (back es at m)) same ∙ ap (place_at es) (sym sent.is) in
          let gone : H (place_at es here) (place_at es before) + amount ≡ F (place_at es here) (place_at es before) =
          back_flow (subst (λ (y : ℕ). set.contains (parents_at parents (place_at es before)) y ≡ false) ev
          (subst (λ (x : ℕ). set.contains (parents_at parents x) v ≡ false) eu out))
          ∙ sends.still here before (omega arith) (omega (arith, less)) in
          subst (λ (y : ℕ). H y u + amount ≡ F y u) (sym ev) (subst (λ (x : ℕ). H (place_at es here) x + amount ≡ F (place_at es here) x) (sym eu) gone)
    ]
      where
        above : (m : ℕ) → m < sent.k → back es at sent.k ≤ back es at (suc m)
        above m less_ =
            let along : suc m + (sent.k - suc m) ≡ sent.k = omega (arith, less_) in
            omega (arith, down n parents within F rest es at s h (suc m) (sent.k - suc m), ap (back es at) along)

-- all steps were sent along where an entry is the start
pub sent_all : (n : ℕ) (parents : List (set.FinSet nat_cmp)) (within : set.FinSet nat_cmp) (F G : ℕ → ℕ → ℕ) (es : List Entry) (at here amount : ℕ)
    → Sent parents within F G es at here amount → from_at es here ≡ None
    → (u v : ℕ) → IsStep es at u v → set.contains (parents_at parents u) v ≡ false → G v u + amount ≡ F v u
sent_all n parents within F G es at here amount sent none u v step out = elim (cases_lt step.k sent.k) as (λ _. G v u + amount ≡ F v u) [
  | inl less ↦ sent.taken u v step less out
  | inr more ↦
      let along : sent.k + (step.k - sent.k) ≡ step.k = omega (arith, more) in
      let same : back es at step.k ≡ here = ap (back es at) (sym along) ∙ stuck es at sent.k (step.k - sent.k) (ap (from_at es) (sym sent.is) ∙ none)
      ∙ sym sent.is in
      let clash_ : None ≡ Some (back es at (suc step.k)) = sym none ∙ ap (from_at es) (sym same) ∙ step.found in
      absurd (let k : None ≡ Some (back es at (suc step.k)) = clash_ in cc)
]

pub is_start : (parents : List (set.FinSet nat_cmp)) (within : set.FinSet nat_cmp) (F G : ℕ → ℕ → ℕ) (es : List Entry) (at here amount : ℕ)
    → Sent parents within F G es at here amount → from_at es here ≡ None → IsStart es at here
is_start parents within F G es at here amount sent none = record { k = sent.k; none = none; is = sent.is }

-- ---- the most that goes along: so far it is the limit or the flow against a step
pub record Narrowed (parents : List (set.FinSet nat_cmp)) (flow : ℕ → ℕ → ℕ) (es : List Entry) (at limit here amount : ℕ) : Type 0 where
  pub k : ℕ
  pub is : here ≡ back es at k
  pub least : (amount ≡ limit) ⊎ ((u : ℕ) × (v : ℕ) × IsStep es at u v × (set.contains (parents_at parents u) v ≡ false) × (flow v u ≡ amount))

pub narrowed_step : (parents : List (set.FinSet nat_cmp)) (flow : ℕ → ℕ → ℕ) (es : List Entry) (at limit here before amount x : ℕ)
    → Narrowed parents flow es at limit here amount → from_at es here ≡ Some before
    → (x ≡ amount) ⊎ ((set.contains (parents_at parents (place_at es before)) (place_at es here) ≡ false) × (flow (place_at es here) (place_at es before) ≡ x))
    → Narrowed parents flow es at limit before x
narrowed_step parents flow es at limit here before amount x old from now =
    let next : before ≡ back es at (suc old.k) = back_step es at old.k here before old.is from in
    record {
      k = suc old.k;
      is = next;
      least = elim now as (λ _. (x ≡ limit) ⊎ ((u : ℕ) × (v : ℕ) × IsStep es at u v × (set.contains (parents_at parents u) v ≡ false) × (flow v u ≡ x))) [
        | inl same ↦ subst (λ (y : ℕ). (y ≡ limit) ⊎
            ((u : ℕ) × (v : ℕ) × IsStep es at u v × (set.contains (parents_at parents u) v ≡ false) × (flow v u ≡ y))) (sym same) old.least
        | inr against ↦ inr (
          place_at es before,
          place_at es here,
          record {
            k = old.k;
            found = ap (from_at es) (sym old.is) ∙ from ∙ ap (λ (i : ℕ). Some i) next;
            first = ap (place_at es) next;
            next =
                ap (place_at es) old.is;
          },
          against.0,
          against.1,
        )
      ];
    }

exact : (z : ℤ) (m : ℕ) → m ≡ unsigned_abs z → pos 0 <ℤ z → pos m ≡ z
exact (pos k) m e h = ap (λ (x : ℕ). pos x) e
exact (negsuc k) m e h = absurd (omega (arith, ints, h))

pub narrowed_all : (parents : List (set.FinSet nat_cmp)) (flow : ℕ → ℕ → ℕ) (rest : ℕ → ℤ) (es : List Entry) (at limit here amount m x : ℕ)
    → Narrowed parents flow es at limit here amount → from_at es here ≡ None → m ≡ unsigned_abs (rest (place_at es here))
    → pos 0 <ℤ rest (place_at es here) → x ≡ min amount m
    → IsNarrowest parents flow rest es at limit x
narrowed_all parents flow rest es at limit here amount m x old none abs above least =
    elim (cases_lt amount m) as (λ _. IsNarrowest parents flow rest es at limit x) [
      | inl less ↦
          let same : amount ≡ x = omega (arith, least, less) in
          subst (λ (y : ℕ). IsNarrowest parents flow rest es at limit y) same
          (elim old.least as (λ _. IsNarrowest parents flow rest es at limit amount) [ inl l ↦ inl l | inr step ↦ inr (inr step) ])
      | inr more ↦
          let same : m ≡ x = omega (arith, least, more) in
          subst (λ (y : ℕ). IsNarrowest parents flow rest es at limit y) same
          (inr (inl (here, record { k = old.k; none = none; is = old.is }, exact (rest (place_at es here)) m abs above)))
    ]

-- what is lacking, as the code computes it
pub exact_lack : (z : ℤ) (m : ℕ) → m ≡ unsigned_abs z → z <ℤ pos 0 → z ≡ neg_ℤ (pos m)
exact_lack (pos k) m e h = absurd (omega (arith, ints, h))
exact_lack (negsuc k) m e h = omega (arith, ints, e)

-- ---- all of it
module _ (n : ℕ) (parents : List (set.FinSet nat_cmp)) (within : set.FinSet nat_cmp) (F G : ℕ → ℕ → ℕ) (r s : ℕ → ℤ) (start end amount : ℕ)
    (m : Moves n parents within F G r s start end amount) where
  pub along : (es : List Entry) (at : ℕ) →
      ((c p : ℕ) → set.contains within c ≡ true → set.contains within p ≡ true → F c p < G c p → IsStep es at c p) → Along n parents within F G r s es at
  along es at grown = record {
    below = m.below;
    grown = grown;
    over = over n parents within F G r s start end amount m;
    short = short n parents within F G r s start end amount m;
  }

  pub uses_up : (es : List Entry) (at limit : ℕ) → IsSearch n parents within F r es → at < length es
      → ((i : ℕ) × IsStart es at i × (start ≡ place_at es i))
      → ((u v : ℕ) → IsStep es at u v → set.contains (parents_at parents u) v ≡ false → G v u + amount ≡ F v u)
      → r end ≡ neg_ℤ (pos limit) → IsNarrowest parents F r es at limit amount → UsesUp parents within F G r s es at
  uses_up es at limit search inside begins taken lack narrow = elim narrow as (λ _. UsesUp parents within F G r s es at) [
    | inl all ↦
        let sent = at_end n parents within F G r s start end amount m in
        inl (end, m.last, omega (arith, ints, all, lack, sent), inr (omega (arith, ints, m.lacks, m.some)))
    | inr some ↦ elim some as (λ _. UsesUp parents within F G r s es at) [
      | inl first ↦
          let same : start ≡ place_at es first.0 = begins.2 ∙ ap (place_at es) (one_start es at begins.0 first.0 begins.1 first.1) in
          let sent = at_start n parents within F G r s start end amount m in
          inl (start, m.first, omega (arith, ints, sent, ap r same, first.2), inl (omega (arith, ints, m.enough, m.some)))
      | inr step ↦
          let both = step_in n parents within F r es at search inside step.0 step.1 step.2 in
          let gone = taken step.0 step.1 step.2 step.3 in
          inr (step.0, step.1, step.2, both.0, both.1, step.3, omega (arith, step.4, m.some), omega (arith, gone, step.4))
    ]
  ]
