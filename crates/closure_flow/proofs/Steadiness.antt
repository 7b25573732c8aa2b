-- What an amount that went from one place to another leaves.
use Rattle.std.proofs.Common.{◌≡◌, ℕ, ◌+◌, ◌^◌, ◌<◌, ◌≤◌, inl, inr, List, true, min, ℤ, pos, negsuc, ◌+ℤ◌, ◌-ℤ◌, neg_ℤ, ◌≤ℤ◌}
use Rattle.std.proofs.Common.{◌<ℤ◌, unsigned_abs, SFits, to_z, of_z, get_or, sym, ap, ◌∙◌, subst, arith}
use Rattle.std.proofs.lemmas.Bool.{cases_eq}
use Rattle.std.proofs.lemmas.Int.{ints, to_z-of_z}
use Rattle.std.specs.Int.{w128}
use Rattle.std.specs.Ordering.{nat_cmp}
use Rattle.std.specs.FinSet as set
use Rattle.bitset.specs.Places.{IsWithin, places}
use Rattle.bitset.specs.Sets.{IsRising-places}
use Rattle.closure_flow.specs.Closures.{weight_at}
use Rattle.closure_flow.specs.Flows.{net, surplus, only_at}
use Rattle.closure_flow.specs.Networks.{IsSized, sent, Improves, IsAllowed, IsSteady, Keeps}
use Rattle.closure_flow.proofs.Lists.{surplus_moved, only_at-here, only_at-else}
use Rattle.closure_flow.proofs.Networks.{read_rest}
use Rattle.closure_flow.proofs.Paths.{among_places, places_among}

-- the flows and the rests after an amount went from a start to an end
pub record Moves (n : ℕ) (parents : List (set.FinSet nat_cmp)) (within : set.FinSet nat_cmp) (F G : ℕ → ℕ → ℕ) (r s : ℕ → ℤ) (start end amount : ℕ)
    : Type 0 where
  pub below : IsWithin n within
  pub first : set.contains within start ≡ true
  pub last : set.contains within end ≡ true
  pub some : 0 < amount
  pub enough : pos amount ≤ℤ r start
  pub lacks : r end ≤ℤ neg_ℤ (pos amount)
  pub moved : (t : ℕ) → set.contains within t ≡ true
      → net (places n within) G t ≡ (net (places n within) F t +ℤ only_at start (pos amount) t) -ℤ only_at end (pos amount) t
  pub more : (c p : ℕ) → set.contains within c ≡ true → set.contains within p ≡ true → G c p ≤ F c p + amount
  pub allowed : IsAllowed n parents within G
  pub rests : (t : ℕ) → t < n → s t ≡ (r t -ℤ only_at start (pos amount) t) +ℤ only_at end (pos amount) t

pub apart_ends : (r : ℕ → ℤ) (start end amount : ℕ) → 0 < amount → pos amount ≤ℤ r start → r end ≤ℤ neg_ℤ (pos amount) → start ≡ end → ⊥
apart_ends r start end amount some enough lacks e = omega (arith, ints, some, enough, lacks, ap r e)

module _ (n : ℕ) (parents : List (set.FinSet nat_cmp)) (within : set.FinSet nat_cmp) (F G : ℕ → ℕ → ℕ) (r s : ℕ → ℤ) (start end amount : ℕ)
    (m : Moves n parents within F G r s start end amount) where
  apart : start ≡ end → ⊥
  apart = apart_ends r start end amount m.some m.enough m.lacks

  pub at_start : s start ≡ r start -ℤ pos amount
  at_start = omega (arith, ints, m.rests start (m.below _ m.first), only_at-here start (pos amount), only_at-else end start (pos amount) apart)

  pub at_end : s end ≡ r end +ℤ pos amount
  at_end = omega (arith, ints, m.rests end (m.below _ m.last), only_at-here end (pos amount), only_at-else start end (pos amount) (λ e. apart (sym e)))

  else_where : (t : ℕ) → t < n → (t ≡ start → ⊥) → (t ≡ end → ⊥) → s t ≡ r t
  else_where t h a b = omega (arith, ints, m.rests t h, only_at-else start t (pos amount) a, only_at-else end t (pos amount) b)

  pub over : (t : ℕ) → set.contains within t ≡ true → pos 0 <ℤ s t → pos 0 <ℤ r t
  over t h o = elim (cases_eq t start) as (λ _. pos 0 <ℤ r t) [
    | inl e ↦ omega (arith, ints, o, ap s e, ap r e, at_start)
    | inr other ↦ elim (cases_eq t end) as (λ _. pos 0 <ℤ r t) [
      | inl e ↦ absurd (omega (arith, ints, o, ap s e, at_end, m.lacks))
      | inr neither ↦ omega (arith, ints, o, else_where t (m.below t h) other neither)
    ]
  ]

  pub short : (t : ℕ) → set.contains within t ≡ true → s t <ℤ pos 0 → r t <ℤ pos 0
  short t h l = elim (cases_eq t end) as (λ _. r t <ℤ pos 0) [
    | inl e ↦ omega (arith, ints, l, ap s e, ap r e, at_end)
    | inr other ↦ elim (cases_eq t start) as (λ _. r t <ℤ pos 0) [
      | inl e ↦ absurd (omega (arith, ints, l, ap s e, at_start, m.enough))
      | inr neither ↦ omega (arith, ints, l, else_where t (m.below t h) neither other)
    ]
  ]

  pub moves_falls : surplus s (places n within) + amount ≡ surplus r (places n within)
  moves_falls =
      surplus_moved r s start end amount (places n within) (IsRising-places n within)
      (among_places n within start (m.below _ m.first) m.first) (among_places n within end (m.below _ m.last) m.last)
      m.enough m.lacks m.some at_start at_end (λ t h a b. else_where t (places_among n within t h).0 a b)

pub moves_steady : (n : ℕ) (parents : List (set.FinSet nat_cmp)) (within : set.FinSet nat_cmp) (F G : ℕ → ℕ → ℕ) (r s : ℕ → ℤ) (start end amount : ℕ)
    → Moves n parents within F G r s start end amount → IsSteady n parents within F r → IsSteady n parents within G s
moves_steady n parents within F G r s start end amount m old =
    record {
      allowed = m.allowed;
      bounded = λ c p a b. omega (arith, moves_falls n parents within F G r s start end amount m, m.more c p a b, old.bounded c p a b);
      short = omega (arith, moves_falls n parents within F G r s start end amount m, old.short);
    }

pub moves_keeps : (n : ℕ) (parents : List (set.FinSet nat_cmp)) (within : set.FinSet nat_cmp) (F G : ℕ → ℕ → ℕ) (r s : ℕ → ℤ) (start end amount : ℕ)
    → Moves n parents within F G r s start end amount → Keeps n within F r G s
moves_keeps n parents within F G r s start end amount m t h =
    same (s t) (r t) (net (places n within) G t) (net (places n within) F t) (only_at start (pos amount) t) (only_at end (pos amount) t)
    (m.rests t (m.below t h)) (m.moved t h)
  where
    same : (x y z w a b : ℤ) → x ≡ (y -ℤ a) +ℤ b → z ≡ (w +ℤ a) -ℤ b → x +ℤ z ≡ y +ℤ w
    same x y z w a b e f = omega (arith, ints, e, f)

pub moves_improve : (n : ℕ) (parents : List (set.FinSet nat_cmp)) (within : set.FinSet nat_cmp) (F G : ℕ → ℕ → ℕ) (r s : ℕ → ℤ) (start end amount : ℕ)
    → Moves n parents within F G r s start end amount → IsSteady n parents within F r → Improves n parents within F r G s
moves_improve n parents within F G r s start end amount m old =
    record { steady = moves_steady n parents within F G r s start end amount m old; keeps = moves_keeps n parents within F G r s start end amount m }

-- nothing that lacks m can be asked for less
pub lacking_of : (z : ℤ) (m x : ℕ) → m ≡ unsigned_abs z → z <ℤ pos 0 → x ≤ m → z ≤ℤ neg_ℤ (pos x)
lacking_of (pos k) m x e h l = absurd (omega (arith, ints, h))
lacking_of (negsuc k) m x e h l = omega (arith, ints, e, l)

-- what lacks an amount has room for it
pub room_below : (z : ℤ) (x : ℕ) → z ≤ℤ neg_ℤ (pos x) → (z +ℤ pos x) <ℤ pos (2 ^ 127)
room_below z x h = omega (arith, ints, h)

pub enough_left : (z : ℤ) (m x : ℕ) → m ≡ unsigned_abs z → pos 0 <ℤ z → x ≤ m → pos x ≤ℤ z
enough_left (pos k) m x e h l = omega (arith, ints, e, l)
enough_left (negsuc k) m x e h l = absurd (omega (arith, ints, h))

pub has_some : (z : ℤ) (m : ℕ) → m ≡ unsigned_abs z → pos 0 <ℤ z → 0 < m
has_some (pos k) m e h = omega (arith, ints, e, h)
has_some (negsuc k) m e h = absurd (omega (arith, ints, h))

-- a rest that was read, with its absolute value as the code computes it
pub read_lack : (n : ℕ) (into : List (set.FinSet nat_cmp)) (amounts : List ℕ) (rest : List ℤ) (place : ℕ) (z : ℤ) (m x : ℕ)
    → IsSized n into amounts rest → place < n → z ≡ get_or rest place z → SFits w128 z → m ≡ unsigned_abs (to_z w128 (of_z w128 z))
    → weight_at rest place <ℤ pos 0 → x ≤ m
    → weight_at rest place ≤ℤ neg_ℤ (pos x)
read_lack n into amounts rest place z m x s h e fine abs low l =
    let read = read_rest n into amounts rest place z s h e in
    subst (λ (y : ℤ). y ≤ℤ neg_ℤ (pos x)) (sym read)
    (lacking_of z m x (abs ∙ ap unsigned_abs (to_z-of_z w128 z fine)) (subst (λ (y : ℤ). y <ℤ pos 0) read low) l)

pub read_left : (n : ℕ) (into : List (set.FinSet nat_cmp)) (amounts : List ℕ) (rest : List ℤ) (place : ℕ) (z : ℤ) (m x : ℕ)
    → IsSized n into amounts rest → place < n → z ≡ get_or rest place z → SFits w128 z → m ≡ unsigned_abs (to_z w128 (of_z w128 z))
    → pos 0 <ℤ weight_at rest place → x ≤ m
    → pos x ≤ℤ weight_at rest place
read_left n into amounts rest place z m x s h e fine abs low l =
    let read = read_rest n into amounts rest place z s h e in
    subst (λ (y : ℤ). pos x ≤ℤ y) (sym read)
    (enough_left z m x (abs ∙ ap unsigned_abs (to_z-of_z w128 z fine)) (subst (λ (y : ℤ). pos 0 <ℤ y) read low) l)

-- the least of what was read to be left at one place and lacking at another
pub giving : (n : ℕ) (into : List (set.FinSet nat_cmp)) (amounts : List ℕ) (rest : List ℤ) (from to : ℕ) (y z : ℤ) (l m x : ℕ)
    → IsSized n into amounts rest → from < n → to < n → y ≡ get_or rest from y → z ≡ get_or rest to z → SFits w128 y → SFits w128 z
    → l ≡ unsigned_abs (to_z w128 (of_z w128 y)) → m ≡ unsigned_abs (to_z w128 (of_z w128 z)) → x ≡ min l m
    → pos 0 <ℤ weight_at rest from → weight_at rest to <ℤ pos 0
    → (pos x ≤ℤ weight_at rest from) × (weight_at rest to ≤ℤ neg_ℤ (pos x)) × (from ≡ to → ⊥)
giving n into amounts rest from to y z l m x s hf ht ey ez fy fz ly mz least above under = (
  read_left n into amounts rest from y l x s hf ey fy ly above (omega (arith, least)),
  read_lack n into amounts rest to z m x s ht ez fz mz under (omega (arith, least)),
  λ e. omega (arith, ints, above, under, ap (weight_at rest) e),
)

pub same_sent : (n : ℕ) (into into' : List (set.FinSet nat_cmp)) (amounts amounts' : List ℕ) → into' ≡ into → amounts' ≡ amounts
    → sent n into amounts ≡ sent n into' amounts'
same_sent n into into' amounts amounts' e f = ap (λ xs. sent n xs amounts) (sym e) ∙ ap (sent n into') (sym f)

-- ---- one improvement after another
