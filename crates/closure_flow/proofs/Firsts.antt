-- The first flow: amounts that go from a place to parents of it, each place in its turn.
use Rattle.std.proofs.Common.{◌≡◌, ℕ, ◌+◌, ◌-◌, ◌^◌, ◌<◌, ◌≤◌, ◌⊎◌, inl, inr, List, Bool, true, false, cond, nat_eq}
use Rattle.std.proofs.Common.{ℤ, pos, negsuc, ◌+ℤ◌, ◌-ℤ◌, ◌<ℤ◌, refl, sym, ap, ◌∙◌, subst, arith}
use Rattle.std.proofs.lemmas.Bool.{cases_eq}
use Rattle.std.proofs.lemmas.Int.{ints}
use Rattle.std.specs.Ordering.{nat_cmp}
use Rattle.std.specs.FinSet as set
use Rattle.bitset.specs.Members.{from_remove}
use Rattle.lists.proofs.Cases.{clash}
use Rattle.lists.proofs.Told.{cases_two}
use Rattle.lists.specs.Rising.{IsRising}
use Rattle.bitset.specs.Places.{IsWithin, places}
use Rattle.bitset.specs.Sets.{IsRising-places}
use Rattle.closure_flow.specs.Closures.{parents_at}
use Rattle.closure_flow.specs.Flows.{Among, net, only_at, surplus}
use Rattle.closure_flow.specs.Networks.{Arranges, Gives, Hands, IsFirst, Improves, Keeps}
use Rattle.closure_flow.proofs.Lists.{net_bump, only_at-else, only_at-here, surplus_two, up_within}
use Rattle.closure_flow.proofs.Paths.{among_places, places_among}
use borrow.Author.Differences.{up, down}

-- ---- what is above 0
up_left : (z : ℤ) (x : ℕ) → x ≤ up z → up (z -ℤ pos x) + x ≡ up z
up_left (pos n) x h =
    let is : pos n -ℤ pos x ≡ pos (n - x) = omega (arith, ints, h) in
    omega (arith, ints, h, ap up is)
up_left (negsuc n) x h =
    let is : negsuc n -ℤ pos x ≡ negsuc n = omega (arith, ints, h) in
    omega (arith, ints, h, ap up is)

up_more : (z : ℤ) (x : ℕ) → up (z +ℤ pos x) ≤ up z + x
up_more z x = at_most (z +ℤ pos x) z x refl
  where
    at_most : (y w : ℤ) (k : ℕ) → y ≡ w +ℤ pos k → up y ≤ up w + k
    at_most (pos n) w k e = omega (arith, ints, e)
    at_most (negsuc n) w k e = omega arith

up_filled : (z : ℤ) (x : ℕ) → x ≤ down z → up (z +ℤ pos x) ≤ up z
up_filled z x h = at_most (z +ℤ pos x) z x refl h
  where
    at_most : (y w : ℤ) (k : ℕ) → y ≡ w +ℤ pos k → k ≤ down w → up y ≤ up w
    at_most (pos n) (pos m) k e l = omega (arith, ints, e, l)
    at_most (pos n) (negsuc m) k e l = omega (arith, ints, e, l)
    at_most (negsuc n) w k e l = omega arith

-- an amount that goes from one place to another raises no sum of what is above 0
surplus_given : (f g : ℕ → ℤ) (a b x : ℕ) (ts : List ℕ) → IsRising ts → Among a ts → Among b ts → (b ≡ a → ⊥)
    → x ≤ up (f a) → g a ≡ f a -ℤ pos x → g b ≡ f b +ℤ pos x
    → ((s : ℕ) → Among s ts → (s ≡ a → ⊥) → (s ≡ b → ⊥) → g s ≡ f s)
    → surplus g ts ≤ surplus f ts
surplus_given f g a b x ts r ha hb apart enough ga gb same =
    let both = surplus_two f g a b ts r ha hb apart same in
    let less : up (g a) + x ≡ up (f a) = ap (λ (z : ℤ). up z + x) ga ∙ up_left (f a) x enough in
    let more : up (g b) ≤ up (f b) + x = subst (λ (z : ℤ). up z ≤ up (f b) + x) (sym gb) (up_more (f b) x) in
    omega (arith, both, less, more)

-- ---- an amount handed from a place to a parent of it, which has its turn later or lacks as much
pub record IsHanding (n : ℕ) (parents : List (set.FinSet nat_cmp)) (within to_come : set.FinSet nat_cmp) (rest : ℕ → ℤ) (from to amount : ℕ) : Type 0 where
  pub below : IsWithin n within
  pub from_in : set.contains within from ≡ true
  pub to_in : set.contains within to ≡ true
  pub pair : set.contains (parents_at parents from) to ≡ true
  pub apart : from ≡ to → ⊥
  pub past : set.contains to_come from ≡ false
  pub left : amount ≤ up (rest from)
  pub sink : (set.contains to_come to ≡ true) ⊎ (amount ≤ down (rest to))

rest_from : (n : ℕ) (parents : List (set.FinSet nat_cmp)) (within to_come : set.FinSet nat_cmp) (F G : ℕ → ℕ → ℕ) (r s : ℕ → ℤ) (from to amount : ℕ)
    → IsHanding n parents within to_come r from to amount → Hands n F r G s from to amount → s from ≡ r from -ℤ pos amount
rest_from n parents within to_come F G r s from to amount h k =
    omega (arith, ints, k.rests from (h.below from h.from_in), only_at-here from (pos amount), only_at-else to from (pos amount) h.apart)

rest_to : (n : ℕ) (parents : List (set.FinSet nat_cmp)) (within to_come : set.FinSet nat_cmp) (F G : ℕ → ℕ → ℕ) (r s : ℕ → ℤ) (from to amount : ℕ)
    → IsHanding n parents within to_come r from to amount → Hands n F r G s from to amount → s to ≡ r to +ℤ pos amount
rest_to n parents within to_come F G r s from to amount h k =
    omega (arith, ints, k.rests to (h.below to h.to_in), only_at-here to (pos amount), only_at-else from to (pos amount) (λ e. h.apart (sym e)))

rest_other : (n : ℕ) (F G : ℕ → ℕ → ℕ) (r s : ℕ → ℤ) (from to amount t : ℕ)
    → Hands n F r G s from to amount → t < n → (t ≡ from → ⊥) → (t ≡ to → ⊥) → s t ≡ r t
rest_other n F G r s from to amount t k h a b =
    omega (arith, ints, k.rests t h, only_at-else from t (pos amount) a, only_at-else to t (pos amount) b)

hands_short : (n : ℕ) (parents : List (set.FinSet nat_cmp)) (within to_come : set.FinSet nat_cmp) (F G : ℕ → ℕ → ℕ) (r s : ℕ → ℤ) (from to amount : ℕ)
    → IsHanding n parents within to_come r from to amount → Hands n F r G s from to amount → surplus s (places n within) ≤ surplus r (places n within)
hands_short n parents within to_come F G r s from to amount h k =
    surplus_given r s from to amount (places n within) (IsRising-places n within)
    (among_places n within from (h.below from h.from_in) h.from_in) (among_places n within to (h.below to h.to_in) h.to_in) (λ e. h.apart (sym e)) h.left
    (rest_from n parents within to_come F G r s from to amount h k) (rest_to n parents within to_come F G r s from to amount h k)
    (λ t m a b. rest_other n F G r s from to amount t k (places_among n within t m).0 a b)

first_hand : (n : ℕ) (parents : List (set.FinSet nat_cmp)) (within to_come : set.FinSet nat_cmp) (F G : ℕ → ℕ → ℕ) (r s : ℕ → ℤ) (from to amount : ℕ)
    → IsHanding n parents within to_come r from to amount → Hands n F r G s from to amount → IsFirst n parents within to_come F r
    → IsFirst n parents within to_come G s
first_hand n parents within to_come F G r s from to amount h k old =
    record { allowed = allowed; inside = old.inside; held = held; fresh = fresh; short = omega (arith, lower, old.short) }
  where
    lower : surplus s (places n within) ≤ surplus r (places n within)
    lower = hands_short n parents within to_come F G r s from to amount h k

    allowed : (c p : ℕ) → c < n → set.contains within p ≡ true → 0 < G c p → (set.contains within c ≡ true) × (set.contains (parents_at parents c) p ≡ true)
    allowed c p hc m f = elim (cases_two c p from to) as (λ _. (set.contains within c ≡ true) × (set.contains (parents_at parents c) p ≡ true)) [
      | inl e ↦ (
        ap (λ (x : ℕ). set.contains within x) e.0 ∙ h.from_in,
        subst (λ (x : ℕ). set.contains (parents_at parents x) p ≡ true) (sym e.0)
            (subst (λ (y : ℕ). set.contains (parents_at parents from) y ≡ true) (sym e.1) h.pair),
      )
      | inr ne ↦ old.allowed c p hc m (subst (λ (x : ℕ). 0 < x) (k.others c p hc (h.below p m) ne) f)
    ]

    at_from : (p : ℕ) → set.contains within p ≡ true → G from p + up (s from) < 2 ^ 126
    at_from p m =
        let less : up (s from) + amount ≡ up (r from) = ap (λ (z : ℤ). up z + amount) (rest_from n parents within to_come F G r s from to amount h k)
        ∙ up_left (r from) amount h.left in
        elim (cases_eq p to) as (λ _. G from p + up (s from) < 2 ^ 126) [
          | inl e ↦ subst (λ (y : ℕ). G from y + up (s from) < 2 ^ 126) (sym e) (omega (arith, k.here, less, old.held from to h.from_in h.to_in))
          | inr ne ↦ omega (arith, k.others from p (h.below from h.from_in) (h.below p m) (λ q. ne q.1), less, old.held from p h.from_in m)
        ]

    at_to : (p : ℕ) → set.contains within p ≡ true → G to p + up (s to) < 2 ^ 126
    at_to p m =
        let same : G to p ≡ F to p = k.others to p (h.below to h.to_in) (h.below p m) (λ q. h.apart (sym q.0)) in
        let is : s to ≡ r to +ℤ pos amount = rest_to n parents within to_come F G r s from to amount h k in
        elim h.sink as (λ _. G to p + up (s to) < 2 ^ 126) [
          | inl later ↦ omega (
            arith,
            same,
            old.fresh to p later m,
            up_within s to (places n within) (among_places n within to (h.below to h.to_in) h.to_in),
            lower,
            old.short,
          )
          | inr lacks ↦ omega (arith, same, ap up is, up_filled (r to) amount lacks, old.held to p h.to_in m)
        ]

    held : (c p : ℕ) → set.contains within c ≡ true → set.contains within p ≡ true → G c p + up (s c) < 2 ^ 126
    held c p a m = elim (cases_eq c from) as (λ _. G c p + up (s c) < 2 ^ 126) [
      | inl e ↦ subst (λ (x : ℕ). G x p + up (s x) < 2 ^ 126) (sym e) (at_from p m)
      | inr ne ↦ elim (cases_eq c to) as (λ _. G c p + up (s c) < 2 ^ 126) [
        | inl e ↦ subst (λ (x : ℕ). G x p + up (s x) < 2 ^ 126) (sym e) (at_to p m)
        | inr nf ↦ omega (
          arith,
          k.others c p (h.below c a) (h.below p m) (λ q. ne q.0),
          ap up (rest_other n F G r s from to amount c k (h.below c a) ne nf),
          old.held c p a m,
        )
      ]
    ]

    fresh : (c p : ℕ) → set.contains to_come c ≡ true → set.contains within p ≡ true → G c p ≡ 0
    fresh c p a m =
        k.others c p (h.below c (old.inside c a)) (h.below p m) (λ q. clash _ a (ap (λ (x : ℕ). set.contains to_come x) q.0 ∙ h.past))
        ∙ old.fresh c p a m

hands_keep : (n : ℕ) (parents : List (set.FinSet nat_cmp)) (within to_come : set.FinSet nat_cmp) (F G : ℕ → ℕ → ℕ) (r s : ℕ → ℤ) (from to amount : ℕ)
    → IsHanding n parents within to_come r from to amount → Hands n F r G s from to amount → Keeps n within F r G s
hands_keep n parents within to_come F G r s from to amount h k t m =
    same (s t) (r t) (net (places n within) G t) (net (places n within) F t) (only_at from (pos amount) t) (only_at to (pos amount) t)
    (k.rests t (h.below t m)) moved
  where
    moved : net (places n within) G t ≡ (net (places n within) F t +ℤ only_at from (pos amount) t) -ℤ only_at to (pos amount) t
    moved =
        net_bump (places n within) F G from to (pos amount) (IsRising-places n within)
        (among_places n within from (h.below from h.from_in) h.from_in) (among_places n within to (h.below to h.to_in) h.to_in) h.apart
        (ap pos k.here) (λ c p hc hp out. k.others c p (places_among n within c hc).0 (places_among n within p hp).0 out)
        t (among_places n within t (h.below t m) m)

    same : (x y z w a b : ℤ) → x ≡ (y -ℤ a) +ℤ b → z ≡ (w +ℤ a) -ℤ b → x +ℤ z ≡ y +ℤ w
    same x y z w a b e f = omega (arith, ints, e, f)

pub arranges_hand : (n : ℕ) (parents : List (set.FinSet nat_cmp)) (within to_come : set.FinSet nat_cmp) (F G : ℕ → ℕ → ℕ) (r s : ℕ → ℤ) (from to amount : ℕ)
    → IsHanding n parents within to_come r from to amount → Hands n F r G s from to amount → IsFirst n parents within to_come F r
    → Arranges n parents within to_come F r G s
arranges_hand n parents within to_come F G r s from to amount h k old =
    record {
      first = first_hand n parents within to_come F G r s from to amount h k old;
      keeps =
          hands_keep n parents within to_come F G r s from to amount h k;
    }

-- ---- one after another
pub arranges_none : (n : ℕ) (parents : List (set.FinSet nat_cmp)) (within to_come : set.FinSet nat_cmp) (F : ℕ → ℕ → ℕ) (r : ℕ → ℤ)
    → IsFirst n parents within to_come F r → Arranges n parents within to_come F r F r
arranges_none n parents within to_come F r f = record { first = f; keeps = λ t h. refl }

pub arranges_more : (n : ℕ) (parents : List (set.FinSet nat_cmp)) (within before to_come : set.FinSet nat_cmp) (F G H : ℕ → ℕ → ℕ) (r s u : ℕ → ℤ)
    → Arranges n parents within before F r G s → Arranges n parents within to_come G s H u → Arranges n parents within to_come F r H u
arranges_more n parents within before to_come F G H r s u a b = record { first = b.first; keeps = λ t h. b.keeps t h ∙ a.keeps t h }

-- a place has its turn
pub first_turn : (n : ℕ) (parents : List (set.FinSet nat_cmp)) (within to_come : set.FinSet nat_cmp) (F : ℕ → ℕ → ℕ) (r : ℕ → ℤ) (place : ℕ)
    → IsFirst n parents within to_come F r → IsFirst n parents within (set.remove to_come place) F r
first_turn n parents within to_come F r place f =
    record {
      allowed = f.allowed;
      inside = λ t m. f.inside t (from_remove to_come place t m).1;
      held = f.held;
      fresh = λ c p m k. f.fresh c p (from_remove to_come place c m).1 k;
      short = f.short;
    }

pub first_start : (n : ℕ) (parents : List (set.FinSet nat_cmp)) (within : set.FinSet nat_cmp) (F : ℕ → ℕ → ℕ) (r : ℕ → ℤ)
    → IsWithin n within → ((c p : ℕ) → set.contains within p ≡ true → F c p ≡ 0) → surplus r (places n within) < 2 ^ 126 → IsFirst n parents within within F r
first_start n parents within F r below none small =
    record {
      allowed = λ c p hc m f. absurd (omega (arith, none c p m, f));
      inside = λ t m. m;
      held = λ c p a m. omega (arith, none c p m, up_within r c (places n within) (among_places n within c (below c a) a), small);
      fresh = λ c p a m. none c p m;
      short = small;
    }

pub first_improves : (n : ℕ) (parents : List (set.FinSet nat_cmp)) (within to_come : set.FinSet nat_cmp) (F G : ℕ → ℕ → ℕ) (r s : ℕ → ℤ)
    → Arranges n parents within to_come F r G s → Improves n parents within F r G s
first_improves n parents within to_come F G r s a =
    record {
      steady = record {
        allowed = a.first.allowed;
        bounded = λ c p m k. omega (arith, a.first.held c p m k, a.first.short);
        short = a.first.short;
      };
      keeps = a.keeps;
    }

-- ---- what was given
pub hands_none : (n : ℕ) (F : ℕ → ℕ → ℕ) (r : ℕ → ℤ) (from to : ℕ) → Hands n F r F r from to 0
hands_none n F r from to =
    record {
      here = omega arith;
      others = λ c p hc hp ne. refl;
      rests =
          λ t h. same (r t) (only_at from (pos 0) t) (only_at to (pos 0) t) (nothing from t) (nothing to t);
    }
  where
    nothing : (k t : ℕ) → only_at k (pos 0) t ≡ pos 0
    nothing k t = either (nat_eq t k)
      where
        either : (b : Bool) → cond b (pos 0) (pos 0) ≡ pos 0
        either true = refl
        either false = refl

    same : (x a b : ℤ) → a ≡ pos 0 → b ≡ pos 0 → x ≡ (x -ℤ a) +ℤ b
    same x a b e f = omega (arith, ints, e, f)

-- there is room for what a place has left
pub room_for_left : (n : ℕ) (parents : List (set.FinSet nat_cmp)) (within to_come : set.FinSet nat_cmp) (F : ℕ → ℕ → ℕ) (r : ℕ → ℤ) (from to amount : ℕ)
    → IsFirst n parents within to_come F r → IsWithin n within → set.contains within from ≡ true → set.contains within to ≡ true → amount ≤ up (r from)
    → ((r to +ℤ pos amount) <ℤ pos (2 ^ 127)) × (F from to + amount < 2 ^ 128)
room_for_left n parents within to_come F r from to amount f below a b h =
    let all = f.short in
    let left = up_within r from (places n within) (among_places n within from (below from a) a) in
    let held = up_within r to (places n within) (among_places n within to (below to b) b) in
    (omega (arith, ints, h, left, held, all), omega (arith, h, f.held from to a b))

pub arranges_give : (n : ℕ) (parents : List (set.FinSet nat_cmp)) (within to_come : set.FinSet nat_cmp) (F G : ℕ → ℕ → ℕ) (r s : ℕ → ℤ) (from to : ℕ)
    → IsWithin n within → set.contains within from ≡ true → set.contains within to ≡ true → set.contains (parents_at parents from) to ≡ true
    → (from ≡ to → ⊥) → set.contains to_come from ≡ false
    → Gives n F r G s from to → IsFirst n parents within to_come F r → Arranges n parents within to_come F r G s
arranges_give n parents within to_come F G r s from to below a b pair apart past k f =
    arranges_hand n parents within to_come F G r s from to k.amount
    (record { below = below; from_in = a; to_in = b; pair = pair; apart = apart; past = past; left = k.left; sink = inr k.lacked }) k.hands f
