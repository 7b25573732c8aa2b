-- When no search goes on: the places reached are a closed set of greatest weight, and none is reached exactly where the flow is balanced.
use Rattle.std.proofs.Common.{◌≡◌, ℕ, ◌^◌, ◌<◌, ◌≤◌, inl, inr, List, [], ◌∷◌, Bool, true, false, not, cond}
use Rattle.std.proofs.Common.{Option, Some, None, MatchOption, is_some, ℤ, pos, negsuc, ◌+ℤ◌, ◌-ℤ◌, ◌<ℤ◌}
use Rattle.std.proofs.Common.{unsigned_abs, refl, sym, ap, ◌∙◌, subst, arith}
use Rattle.std.proofs.lemmas.Int.{ints}
use Rattle.std.proofs.lemmas.List.Sums.{count_by-le-length, sum_by-cons}
use Rattle.std.specs.List.{count_by, range_with_len, sum_by}
use Rattle.std.specs.Ordering.{nat_cmp}
use Rattle.std.specs.FinSet as set
use Rattle.arithmetic.specs.Sums.{total}
use Rattle.arithmetic.proofs.Sums.{total-add, total-filter_cond, total_same, total-zero}
use Rattle.bitset.specs.Places.{IsLeast, IsWithin, places}
use Rattle.bitset.specs.Sets.{len-places, places-empty}
use Rattle.closure_flow.proofs.Queues.{fewer}
use Rattle.closure_flow.specs.Closures.{IsBalanced, IsClosed, IsNoneHeavier, parents_at, weight_at, weight_of}
use Rattle.closure_flow.specs.Flows.{Among, net, surplus, shortage}
use Rattle.closure_flow.specs.Networks.{Improves, IsAllowed}
use Rattle.closure_flow.specs.Queues.{IsSealed}
use Rattle.closure_flow.proofs.Cuts.{inside, net_of_closed, net_of_sealed, rests_low, rests_all}
use Rattle.closure_flow.proofs.Lists.{total_along, rests_split, up_within, down_within}
use Rattle.closure_flow.proofs.Paths.{among_places, places_among}
use borrow.Author.Differences.{up}

inside_twice : (k m : Bool) (z : ℤ) → (m ≡ true → k ≡ true) → cond k (cond m z (pos 0)) (pos 0) ≡ cond m z (pos 0)
inside_twice true m z h = refl
inside_twice false true z h = absurd (let f : false ≡ true = h refl in cc)
inside_twice false false z h = refl

-- the weight of a set within another, as a sum over that
pub weight_inside : (n : ℕ) (weights : List ℤ) (within s : set.FinSet nat_cmp) → ((t : ℕ) → set.contains s t ≡ true → set.contains within t ≡ true)
    → weight_of n weights s ≡ total (inside (set.contains s) (weight_at weights)) (places n within)
weight_inside n weights within s h =
    total-filter_cond (weight_at weights) (set.contains s) (range_with_len 0 n)
    ∙ sym (total_same (λ t. cond (set.contains within t) (cond (set.contains s t) (weight_at weights t) (pos 0)) (pos 0))
    (λ t. cond (set.contains s t) (weight_at weights t) (pos 0)) (range_with_len 0 n)
    (λ t. inside_twice (set.contains within t) (set.contains s t) (weight_at weights t) (h t)))
    ∙ sym (total-filter_cond (inside (set.contains s) (weight_at weights)) (set.contains within) (range_with_len 0 n))

-- what is left and what flows, place by place
pub record Ends (n : ℕ) (weights : List ℤ) (parents : List (set.FinSet nat_cmp)) (within : set.FinSet nat_cmp) (flow : ℕ → ℕ → ℕ) (rest : ℕ → ℤ) : Type 0 where
  pub below : IsWithin n within
  pub allowed : IsAllowed n parents within flow
  pub left : (t : ℕ) → set.contains within t ≡ true → rest t +ℤ net (places n within) flow t ≡ weight_at weights t

inside_add : (b : Bool) (x y z : ℤ) → x +ℤ y ≡ z → cond b z (pos 0) ≡ cond b x (pos 0) +ℤ cond b y (pos 0)
inside_add true x y z e = sym e
inside_add false x y z e = refl

pub weight_split : (n : ℕ) (weights : List ℤ) (parents : List (set.FinSet nat_cmp)) (within : set.FinSet nat_cmp) (flow : ℕ → ℕ → ℕ) (rest : ℕ → ℤ)
    (m : ℕ → Bool)
    → Ends n weights parents within flow rest
    → total (inside m (weight_at weights)) (places n within) ≡ total (inside m rest) (places n within) +ℤ total
    (inside m (net (places n within) flow)) (places n within)
weight_split n weights parents within flow rest m e =
    total_along (λ t. inside m rest t +ℤ inside m (net (places n within) flow) t) (inside m (weight_at weights)) (places n within)
    (λ t h. inside_add (m t) (rest t) (net (places n within) flow t) (weight_at weights t) (e.left t (places_among n within t h).1))
    ∙ total-add (inside m rest) (inside m (net (places n within) flow)) (places n within)

-- flow out of a closed set stays in it
stays : (n : ℕ) (weights : List ℤ) (parents : List (set.FinSet nat_cmp)) (within : set.FinSet nat_cmp) (flow : ℕ → ℕ → ℕ) (rest : ℕ → ℤ)
    (s : set.FinSet nat_cmp)
    → Ends n weights parents within flow rest → IsClosed parents within s
    → (c p : ℕ) → Among c (places n within) → Among p (places n within) → 0 < flow c p → set.contains s c ≡ true → set.contains s p ≡ true
stays n weights parents within flow rest s e closed c p hc hp f m =
    let p_in = (places_among n within p hp).1 in
    closed.upward c p m (e.allowed c p (places_among n within c hc).0 p_in f).1 p_in

pub none_heavier : (n : ℕ) (weights : List ℤ) (parents : List (set.FinSet nat_cmp)) (within : set.FinSet nat_cmp) (flow : ℕ → ℕ → ℕ) (rest : ℕ → ℤ)
    → Ends n weights parents within flow rest → IsNoneHeavier n weights parents within (pos (surplus rest (places n within)))
none_heavier n weights parents within flow rest e s closed =
    omega (
      arith,
      ints,
      weight_inside n weights within s closed.inside,
      weight_split n weights parents within flow rest (set.contains s) e,
      net_of_closed (places n within) flow (set.contains s) (stays n weights parents within flow rest s e closed),
      rests_low rest (set.contains s) (places n within),
    )

pub sealed_closed : (n : ℕ) (parents : List (set.FinSet nat_cmp)) (within : set.FinSet nat_cmp) (flow : ℕ → ℕ → ℕ) (rest : ℕ → ℤ)
    (s : set.FinSet nat_cmp) → IsSealed n parents within flow rest s → IsClosed parents within s
sealed_closed n parents within flow rest s sealed = record { inside = sealed.inside; upward = sealed.along }

pub sealed_weight : (n : ℕ) (weights : List ℤ) (parents : List (set.FinSet nat_cmp)) (within : set.FinSet nat_cmp) (flow : ℕ → ℕ → ℕ) (rest : ℕ → ℤ)
    (s : set.FinSet nat_cmp)
    → Ends n weights parents within flow rest → IsSealed n parents within flow rest s → weight_of n weights s ≡ pos (surplus rest (places n within))
sealed_weight n weights parents within flow rest s e sealed =
    omega (
      arith,
      ints,
      weight_inside n weights within s sealed.inside,
      weight_split n weights parents within flow rest (set.contains s) e,
      net_of_sealed (places n within) flow (set.contains s)
          (stays n weights parents within flow rest s e (sealed_closed n parents within flow rest s sealed))
          (λ c p hc hp f m. sealed.against p c m (places_among n within c hc).0 f),
      rests_all rest (set.contains s) (places n within) (λ t h m. sealed.content t m) (λ t h m. sealed.starts t (places_among n within t h).1 m),
    )

pub sealed_some : (n : ℕ) (parents : List (set.FinSet nat_cmp)) (within : set.FinSet nat_cmp) (flow : ℕ → ℕ → ℕ) (rest : ℕ → ℤ) (s : set.FinSet nat_cmp) (t : ℕ)
    → IsWithin n within → IsSealed n parents within flow rest s → set.contains s t ≡ true → 0 < surplus rest (places n within)
sealed_some n parents within flow rest s t below sealed m =
    let u = sealed.some t m in
    omega (arith, ints, up_within rest u.0 (places n within) (among_places n within u.0 (below u.0 u.1) u.1), u.2)

-- ---- where nothing was reached
pub nothing_over : (n : ℕ) (weights : List ℤ) (parents : List (set.FinSet nat_cmp)) (within : set.FinSet nat_cmp) (flow : ℕ → ℕ → ℕ) (rest : ℕ → ℤ)
    (s : set.FinSet nat_cmp)
    → Ends n weights parents within flow rest → IsSealed n parents within flow rest s → s ≡ set.empty → surplus rest (places n within) ≡ 0
nothing_over n weights parents within flow rest s e sealed none =
    let zero_ : weight_of n weights s ≡ pos 0 = ap (weight_of n weights) none ∙ ap (total (weight_at weights)) (places-empty n) in
    omega (arith, ints, sealed_weight n weights parents within flow rest s e sealed, zero_)

all_net : (n : ℕ) (within : set.FinSet nat_cmp) (flow : ℕ → ℕ → ℕ) → total (net (places n within) flow) (places n within) ≡ pos 0
all_net n within flow = net_of_sealed (places n within) flow (λ t. true) (λ c p hc hp f m. refl) (λ c p hc hp f m. refl)

pub all_even : (n : ℕ) (weights : List ℤ) (parents : List (set.FinSet nat_cmp)) (within : set.FinSet nat_cmp) (flow : ℕ → ℕ → ℕ) (rest : ℕ → ℤ)
    → Ends n weights parents within flow rest → weight_of n weights within ≡ pos 0 → surplus rest (places n within) ≡ 0
    → (t : ℕ) → set.contains within t ≡ true → weight_at weights t ≡ net (places n within) flow t
all_even n weights parents within flow rest e sum none t m =
    let whole : total (weight_at weights) (places n within) ≡ total rest (places n within) +ℤ total (net (places n within) flow) (places n within) =
    weight_split n weights parents within flow rest (λ k. true) e in
    let short : shortage rest (places n within) ≡ 0 = omega (arith, ints, whole, sum, all_net n within flow, rests_split rest (places n within), none) in
    let among = among_places n within t (e.below t m) m in
    omega (arith, ints, e.left t m, up_within rest t (places n within) among, down_within rest t (places n within) among, none, short)

-- the net flow of a place as what goes out less what comes in
sum_along : (f g : ℕ → ℕ) (ts : List ℕ) → ((s : ℕ) → Among s ts → f s ≡ g s) → sum_by f ts ≡ sum_by g ts
sum_along f g [] h = refl
sum_along f g (x ∷ xs) h = omega (arith, sum_by-cons f x xs, sum_by-cons g x xs, h x (inl refl), sum_along f g xs (λ s m. h s (inr m)))

net_sums : (f g : ℕ → ℕ) (ts : List ℕ) → total (λ s. pos (f s) -ℤ pos (g s)) ts ≡ pos (sum_by f ts) -ℤ pos (sum_by g ts)
net_sums f g [] = refl
net_sums f g (x ∷ xs) = omega (arith, ints, net_sums f g xs, sum_by-cons f x xs, sum_by-cons g x xs)

pub out_and_in : (ts : List ℕ) (flow : ℕ → ℕ → ℕ) (t : ℕ) → net ts flow t ≡ pos (sum_by (λ p. flow t p) ts) -ℤ pos (sum_by (λ c. flow c t) ts)
unfolding net
out_and_in ts flow t = net_sums (λ p. flow t p) (λ c. flow c t) ts

pub balanced_flow : (n : ℕ) (weights : List ℤ) (parents : List (set.FinSet nat_cmp)) (within : set.FinSet nat_cmp) (flow shown : ℕ → ℕ → ℕ) (rest : ℕ → ℤ)
    → Ends n weights parents within flow rest → weight_of n weights within ≡ pos 0 → surplus rest (places n within) ≡ 0
    → ((c p : ℕ) → set.contains within p ≡ true → shown c p ≡ flow c p)
    → ((c p : ℕ) → 0 < shown c p → (c < n) × (set.contains within p ≡ true))
    → IsBalanced n weights parents within shown
balanced_flow n weights parents within flow shown rest e sum none same only =
    record {
      even = λ t m.
          all_even n weights parents within flow rest e sum none t m
          ∙ out_and_in (places n within) flow t
          ∙ ap (λ (k : ℕ). pos k -ℤ pos (sum_by (λ c. flow c t) (places n within)))
          (sum_along (λ p. flow t p) (λ p. shown t p) (places n within) (λ p h. sym (same t p (places_among n within p h).1)))
          ∙ ap (λ (k : ℕ). pos (sum_by (λ p. shown t p) (places n within)) -ℤ pos k)
          (sum_along (λ c. flow c t) (λ c. shown c t) (places n within) (λ c h. sym (same c t m)));
      child = λ c p f. (both c p f).0;
      parent = λ c p f. (only c p f).1;
      pair = λ c p f. (both c p f).1;
    }
  where
    both : (c p : ℕ) → 0 < shown c p → (set.contains within c ≡ true) × (set.contains (parents_at parents c) p ≡ true)
    both c p f =
        let o = only c p f in
        e.allowed c p o.0 o.1 (subst (λ (k : ℕ). 0 < k) (same c p o.1) f)

-- ---- the beginning
pub net_none : (ts : List ℕ) (flow : ℕ → ℕ → ℕ) (t : ℕ) → Among t ts → ((c p : ℕ) → Among p ts → flow c p ≡ 0) → net ts flow t ≡ pos 0
unfolding net
net_none ts flow t h none =
    total_along (λ s. pos 0) (λ s. pos (flow t s) -ℤ pos (flow s t)) ts (λ s hs. omega (arith, ints, none t s hs, none s t h)) ∙ total-zero ts

pub surplus_small : (weights rest : ℕ → ℤ) (ts : List ℕ) → ((t : ℕ) → Among t ts → rest t ≡ weights t)
    → surplus rest ts ≤ sum_by (λ t. unsigned_abs (weights t)) ts
unfolding surplus
surplus_small weights rest [] e = omega arith
surplus_small weights rest (t ∷ ts) e =
    omega (
      arith,
      sum_by-cons (λ x. unsigned_abs (weights x)) t ts,
      surplus_small weights rest ts (λ s h. e s (inr h)),
      at_most (rest t) (weights t) (e t (inl refl)),
    )
  where
    at_most : (y z : ℤ) → y ≡ z → up y ≤ unsigned_abs z
    at_most y (pos k) q = omega (arith, ints, q)
    at_most y (negsuc k) q = omega (arith, ints, q)

pub small_start : (n : ℕ) (weights : ℕ → ℤ) (within w : set.FinSet nat_cmp) (rest : ℕ → ℤ) → w ≡ within
    → ((t : ℕ) → set.contains within t ≡ true → rest t ≡ weights t) → sum_by (λ t. unsigned_abs (weights t)) (places n within) < 2 ^ 126
    → surplus rest (places n w) < 2 ^ 126
small_start n weights within w rest e left small =
    subst (λ x. surplus rest (places n x) < 2 ^ 126) (sym e)
    (omega (arith, surplus_small weights rest (places n within) (λ t h. left t (places_among n within t h).1), small))

pub left_start : (n : ℕ) (weights : ℕ → ℤ) (within : set.FinSet nat_cmp) (flow : ℕ → ℕ → ℕ) (rest : ℕ → ℤ)
    → IsWithin n within
    → ((t : ℕ) → set.contains within t ≡ true → rest t ≡ weights t) → ((c p : ℕ) → set.contains within p ≡ true → flow c p ≡ 0)
    → (t : ℕ) → set.contains within t ≡ true → rest t +ℤ net (places n within) flow t ≡ weights t
left_start n weights within flow rest below left none t m =
    omega (arith, ints, left t m, net_none (places n within) flow t (among_places n within t (below t m) m) (λ c p h. none c p (places_among n within p h).1))

-- ---- the whole run
-- what is left and what flows at the end, and the places reached last
pub record Run (n : ℕ) (weights : List ℤ) (parents : List (set.FinSet nat_cmp)) (within : set.FinSet nat_cmp) (flow : ℕ → ℕ → ℕ) (rest : ℕ → ℤ)
    (reached : set.FinSet nat_cmp) : Type 0 where
  pub ends : Ends n weights parents within flow rest
  pub sealed : IsSealed n parents within flow rest reached

pub run_of : (n : ℕ) (weights : List ℤ) (parents : List (set.FinSet nat_cmp)) (within w1 w2 w3 : set.FinSet nat_cmp) (F G H : ℕ → ℕ → ℕ)
    (r s u : ℕ → ℤ) (reached : set.FinSet nat_cmp)
    → IsWithin n w1 → w1 ≡ within → w2 ≡ w1 → w3 ≡ w2
    → ((t : ℕ) → set.contains within t ≡ true → r t ≡ weight_at weights t) → ((c p : ℕ) → set.contains within p ≡ true → F c p ≡ 0)
    → Improves n parents w1 F r G s → Improves n parents w2 G s H u → IsSealed n parents w3 H u reached
    → Run n weights parents within H u reached
run_of n weights parents within w1 w2 w3 F G H r s u reached below e1 e2 e3 left none first second sealed =
    let one : Improves n parents within F r G s = subst (λ x. Improves n parents x F r G s) e1 first in
    let two : Improves n parents within G s H u = subst (λ x. Improves n parents x G s H u) (e2 ∙ e1) second in
    let inside : IsWithin n within = subst (IsWithin n) e1 below in
    record {
      ends = record {
        below = inside;
        allowed = two.steady.allowed;
        left = λ t m. two.keeps t m ∙ one.keeps t m ∙ left_start n (weight_at weights) within F r inside left none t m;
      };
      sealed = subst (λ x. IsSealed n parents x H u reached) (e3 ∙ e2 ∙ e1) sealed;
    }

pub none_where_sealed : (n : ℕ) (weights : List ℤ) (parents : List (set.FinSet nat_cmp)) (within : set.FinSet nat_cmp) (flow : ℕ → ℕ → ℕ)
    (rest : ℕ → ℤ) (s : set.FinSet nat_cmp)
    → Ends n weights parents within flow rest → IsSealed n parents within flow rest s → s ≡ set.empty → IsNoneHeavier n weights parents within (pos 0)
none_where_sealed n weights parents within flow rest s e sealed none =
    subst (λ (k : ℕ). IsNoneHeavier n weights parents within (pos k)) (nothing_over n weights parents within flow rest s e sealed none)
    (none_heavier n weights parents within flow rest e)

pub positive_where_some : (n : ℕ) (weights : List ℤ) (parents : List (set.FinSet nat_cmp)) (within : set.FinSet nat_cmp) (flow : ℕ → ℕ → ℕ)
    (rest : ℕ → ℤ) (s : set.FinSet nat_cmp) (t : ℕ)
    → Ends n weights parents within flow rest → IsSealed n parents within flow rest s → set.contains s t ≡ true → pos 0 <ℤ weight_of n weights s
positive_where_some n weights parents within flow rest s t e sealed m =
    omega (arith, ints, sealed_weight n weights parents within flow rest s e sealed, sealed_some n parents within flow rest s t e.below sealed m)

pub greatest_where_sealed : (n : ℕ) (weights : List ℤ) (parents : List (set.FinSet nat_cmp)) (within : set.FinSet nat_cmp) (flow : ℕ → ℕ → ℕ)
    (rest : ℕ → ℤ) (s : set.FinSet nat_cmp)
    → Ends n weights parents within flow rest → IsSealed n parents within flow rest s → IsNoneHeavier n weights parents within (weight_of n weights s)
greatest_where_sealed n weights parents within flow rest s e sealed =
    subst (λ (z : ℤ). IsNoneHeavier n weights parents within z) (sym (sealed_weight n weights parents within flow rest s e sealed))
    (none_heavier n weights parents within flow rest e)

-- ---- counting
pub count_within : (n : ℕ) (p : ℕ → Bool) (s : set.FinSet nat_cmp) → IsWithin n s → count_by p (places n s) ≤ set.len s
count_within n p s w = omega (arith, count_by-le-length p (places n s), len-places n s w)

-- more steps than before were counted, where each place of a set with a member was one
pub counted_some : (s : set.FinSet nat_cmp) (t : ℕ) → set.contains s t ≡ true → 0 < set.len s
counted_some s t m = omega (arith, fewer s t m)

-- ---- whether there is a least place
pub none_is_empty : (o : Option ℕ) (b : Bool) (s : set.FinSet nat_cmp) → is_some o ≡ not b → b ≡ true → MatchOption o (s ≡ set.empty) (IsLeast s)
    → s ≡ set.empty
none_is_empty None b s e t m = m
none_is_empty (Some p) b s e t m = absurd (let f : true ≡ false = e ∙ ap not t in cc)

pub some_is_least : (o : Option ℕ) (b : Bool) (s : set.FinSet nat_cmp) → is_some o ≡ not b → b ≡ false → MatchOption o (s ≡ set.empty) (IsLeast s)
    → (p : ℕ) × (set.contains s p ≡ true)
some_is_least None b s e t m = absurd (let f : false ≡ true = e ∙ ap not t in cc)
some_is_least (Some p) b s e t m = (p, m.member)
