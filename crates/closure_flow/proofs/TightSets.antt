-- Tight sets are those that a search finds: closed, with all that send flow to them.
use Rattle.std.proofs.Common.{◌≡◌, ℕ, ◌+◌, ◌*◌, ◌^◌, ◌<◌, ◌≤◌, ◌⊎◌, inl, inr, List, length, Bool, true}
use Rattle.std.proofs.Common.{false, cond, Option, Some, None, MatchOption, is_some, not}
use Rattle.std.proofs.Common.{ℤ, pos, sym, ap, ◌∙◌, subst, arith}
use Rattle.std.proofs.lemmas.Bool.{cases_Bool, cases_eq, cases_lt, false_from_ne_true}
use Rattle.std.proofs.lemmas.Int.{ints}
use Rattle.std.proofs.Math.Nat.{mul-le-mul, mul-le-mul_right}
use Rattle.std.specs.Ordering.{nat_cmp}
use Rattle.std.specs.FinSet as set
use Rattle.lists.proofs.Cases.{clash}
use Rattle.lists.proofs.Keys.{set_within, set_some}
use Rattle.arithmetic.specs.Sums.{total}
use Rattle.bitset.specs.Members.{empty_has_none, from_insert, len_bound, insert_here, from_remove, remove_other, minus_parts, from_meet, to_meet, to_union_right}
use Rattle.bitset.specs.Places.{IsLeast, IsWithin, places}
use Rattle.bitset.specs.Sets.{contains-empty}
use Rattle.closure_flow.specs.declared.queue.Entry.{Entry}
use Rattle.closure_flow.specs.Closures.{IsBalanced, IsClosed, parents_at, weight_at, weight_of}
use Rattle.closure_flow.specs.Flows.{Among, net}
use Rattle.closure_flow.specs.Networks.{IsAllowed, IsSized}
use Rattle.closure_flow.specs.Queues.{Grows, IsBeyond, Lists, place_at}
use Rattle.closure_flow.specs.Tight.{AreApart, IsDrawn, IsDrawnBy, IsFewestDrawn, IsLeastTight, IsSmallestTight, IsTight}
use Rattle.closure_flow.proofs.Cuts.{inside, net_of_entered, net_of_sealed}
use Rattle.closure_flow.proofs.Lists.{total_along}
use Rattle.closure_flow.proofs.Optimum.{counted_some, out_and_in, weight_inside}
use Rattle.closure_flow.proofs.Paths.{among_places, places_among}

-- ---- drawn sets are the tight ones
module _ (n : ℕ) (weights : List ℤ) (parents : List (set.FinSet nat_cmp)) (within : set.FinSet nat_cmp) (flow : ℕ → ℕ → ℕ)
    (below : IsWithin n within) (balanced : IsBalanced n weights parents within flow) where
  -- the weight of a set is what leaves it on balance
  weight_net : (s : set.FinSet nat_cmp) → ((t : ℕ) → set.contains s t ≡ true → set.contains within t ≡ true)
      → weight_of n weights s ≡ total (inside (set.contains s) (net (places n within) flow)) (places n within)
  weight_net s within_it =
      weight_inside n weights within s within_it
      ∙ total_along (inside (set.contains s) (net (places n within) flow)) (inside (set.contains s) (weight_at weights)) (places n within)
      (λ t h. ap (λ (z : ℤ). cond (set.contains s t) z (pos 0))
      (balanced.even t (places_among n within t h).1 ∙ sym (out_and_in (places n within) flow t)))

  -- flow out of a closed set stays in it
  stays : (s : set.FinSet nat_cmp) → IsClosed parents within s → (c p : ℕ) → Among c (places n within)
      → Among p (places n within) → 0 < flow c p → set.contains s c ≡ true → set.contains s p ≡ true
  stays s closed c p hc hp f m = closed.upward c p m (balanced.pair c p f) (places_among n within p hp).1

  pub drawn_tight : (s : set.FinSet nat_cmp) → IsDrawn n parents within flow s → IsTight n weights parents within s
  drawn_tight s drawn =
      let closed : IsClosed parents within s = record { inside = drawn.inside; upward = drawn.along } in
      record {
        closed = closed;
        even = weight_net s drawn.inside ∙ net_of_sealed (places n within) flow (set.contains s) (stays s closed)
            (λ c p hc hp f m. drawn.against p c m (places_among n within c hc).0 f);
      }

  pub tight_drawn : (s : set.FinSet nat_cmp) → IsTight n weights parents within s → IsDrawn n parents within flow s
  tight_drawn s tight = record {
    inside = tight.closed.inside;
    along = tight.closed.upward;
    against = λ t c m h f. elim (cases_Bool (set.contains s c)) as (λ _. set.contains s c ≡ true) [
      | inl here ↦ here
      | inr out ↦ absurd (
          let c_in = among_places n within c h (balanced.child c t f) in
          let t_in = among_places n within t (below t (tight.closed.inside t m)) (tight.closed.inside t m) in
          let less = net_of_entered (places n within) flow (set.contains s) c t (stays s tight.closed) c_in t_in f m out in
          omega (arith, ints, less, weight_net s tight.closed.inside, tight.even))
    ];
  }

  pub allowed : IsAllowed n parents within flow
  allowed c p h m f = (balanced.child c p f, balanced.pair c p f)

  pub least_tight : (place : ℕ) (s : set.FinSet nat_cmp) → IsDrawn n parents within flow s → set.contains s place ≡ true
      → IsDrawnBy n parents within flow place s → IsLeastTight n weights parents within place s
  least_tight place s drawn holds by =
      record { tight = drawn_tight s drawn; holds = holds; least = λ x tight m. by x (tight_drawn x tight) m }

  pub smallest_tight : (s : set.FinSet nat_cmp) → IsFewestDrawn n parents within flow s → IsSmallestTight n weights parents within s
  smallest_tight s fewest =
      record { tight = drawn_tight s fewest.drawn; some = fewest.some; fewest = λ x tight some. fewest.fewest x (tight_drawn x tight) some }

-- ---- a search from a place
-- what holds of a search of which some entries were taken
pub record Drawing (n : ℕ) (parents : List (set.FinSet nat_cmp)) (within : set.FinSet nat_cmp) (flow : ℕ → ℕ → ℕ) (place : ℕ)
    (es : List Entry) (taken : ℕ) (seen : set.FinSet nat_cmp) : Type 0 where
  pub lists : Lists es seen
  pub below : IsWithin n seen
  pub inside : (t : ℕ) → set.contains seen t ≡ true → set.contains within t ≡ true
  pub holds : set.contains seen place ≡ true
  pub least : IsDrawnBy n parents within flow place seen
  pub along : (i p : ℕ) → i < taken → set.contains (parents_at parents (place_at es i)) p ≡ true
      → set.contains within p ≡ true → set.contains seen p ≡ true
  pub against : (i c : ℕ) → i < taken → c < n → 0 < flow c (place_at es i) → set.contains seen c ≡ true

module _ (n : ℕ) (parents : List (set.FinSet nat_cmp)) (within : set.FinSet nat_cmp) (flow : ℕ → ℕ → ℕ) (place : ℕ) where
  pub drawing_start : (es : List Entry) (start seen : set.FinSet nat_cmp) → set.contains within place ≡ true
      → start ≡ set.insert set.empty place → Lists es seen → IsWithin n seen
      → ((t : ℕ) → set.contains start t ≡ true → set.contains seen t ≡ true)
      → ((t : ℕ) → set.contains seen t ≡ true → (set.contains (set.empty {R = nat_cmp}) t ≡ true) ⊎ (set.contains start t ≡ true))
      → Drawing n parents within flow place es 0 seen
  drawing_start es start seen inside is lists below new only =
      let place_is : (t : ℕ) → set.contains seen t ≡ true → t ≡ place = λ t m. elim (only t m) as (λ _. t ≡ place) [
        | inl none ↦ clash _ none (contains-empty t)
        | inr some ↦ elim (from_insert set.empty place t (subst (λ s. set.contains s t ≡ true) is some)) as (λ _. t ≡ place) [
          | inl same ↦ same
          | inr none ↦ clash _ none (contains-empty t)
        ]
      ] in
      record {
        lists = lists;
        below = below;
        inside = λ t m. ap (set.contains within) (place_is t m) ∙ inside;
        holds = new place (ap (λ s. set.contains s place) is ∙ insert_here set.empty place);
        least = λ x drawn m t seen_it. ap (set.contains x) (place_is t seen_it) ∙ m;
        along = λ i p h m k. absurd (omega arith);
        against = λ i c h k m. absurd (omega arith);
      }

  pub drawing_least : (es : List Entry) (k : ℕ) (seen seen' next : set.FinSet nat_cmp)
      → Drawing n parents within flow place es k seen → k < length es
      → IsBeyond n parents within flow seen (place_at es k) next → IsWithin n seen'
      → ((t : ℕ) → set.contains seen' t ≡ true → (set.contains seen t ≡ true) ⊎ (set.contains next t ≡ true))
      → IsDrawnBy n parents within flow place seen'
  drawing_least es k seen seen' next s hk b below only x drawn m t seen_it =
      elim (only t seen_it) as (λ _. set.contains x t ≡ true) [
        | inl was ↦ s.least x drawn m t was
        | inr now ↦
            let here : set.contains x (place_at es k) ≡ true = s.least x drawn m (place_at es k) (s.lists.each k hk) in
            elim (b.reached t now) as (λ _. set.contains x t ≡ true) [
              | inl pair ↦ drawn.along (place_at es k) t here pair (b.inside t now)
              | inr sent ↦ drawn.against (place_at es k) t here (below t seen_it) sent
            ]
      ]

  pub drawing_step : (es es' : List Entry) (k : ℕ) (seen seen' next : set.FinSet nat_cmp) (from : Option ℕ)
      → Drawing n parents within flow place es k seen → k < length es
      → IsBeyond n parents within flow seen (place_at es k) next
      → Lists es' seen' → IsWithin n seen' → Grows es es' next from
      → ((t : ℕ) → set.contains seen t ≡ true → set.contains seen' t ≡ true)
      → ((t : ℕ) → set.contains next t ≡ true → set.contains seen' t ≡ true)
      → ((t : ℕ) → set.contains seen' t ≡ true → (set.contains seen t ≡ true) ⊎ (set.contains next t ≡ true))
      → Drawing n parents within flow place es' (k + 1) seen'
  drawing_step es es' k seen seen' next from s hk b lists below g old new only =
      record {
        lists = lists;
        below = below;
        inside = λ t m. elim (only t m) as (λ _. set.contains within t ≡ true) [ inl was ↦ s.inside t was | inr now ↦ b.inside t now ];
        holds = old place s.holds;
        least = drawing_least es k seen seen' next s hk b below only;
        along = λ i p h m q. elim (taken_or_this i h) as (λ _. set.contains seen' p ≡ true) [
          | inl was ↦ old p (s.along i p was (ap (λ (t : ℕ). set.contains (parents_at parents t) p) (kept i was) ∙ m) q)
          | inr this ↦ either p (b.along p (ap (λ (t : ℕ). set.contains (parents_at parents t) p) (sym (this_place i this)) ∙ m) q)
        ];
        against = λ i c h hc m. elim (taken_or_this i h) as (λ _. set.contains seen' c ≡ true) [
          | inl was ↦ old c (s.against i c was hc (subst (λ (t : ℕ). 0 < flow c t) (sym (kept i was)) m))
          | inr this ↦ either c (b.against c hc (subst (λ (t : ℕ). 0 < flow c t) (this_place i this) m))
        ];
      }
    where
      kept : (i : ℕ) → i < k → place_at es i ≡ place_at es' i
      kept i h = sym (g.kept i (omega (arith, h, hk))).0

      taken_or_this : (i : ℕ) → i < k + 1 → (i < k) ⊎ (i ≡ k)
      taken_or_this i h = elim (cases_lt i k) as (λ _. (i < k) ⊎ (i ≡ k)) [ inl less ↦ inl less | inr more ↦ inr (omega (arith, more, h)) ]

      this_place : (i : ℕ) → i ≡ k → place_at es' i ≡ place_at es k
      this_place i e = ap (λ (q : ℕ). place_at es' q) e ∙ (g.kept k hk).0

      either : (t : ℕ) → (set.contains seen t ≡ true) ⊎ (set.contains next t ≡ true) → set.contains seen' t ≡ true
      either t (inl m) = old t m
      either t (inr m) = new t m

  pub drawing_end : (es : List Entry) (k : ℕ) (seen : set.FinSet nat_cmp) → Drawing n parents within flow place es k seen
      → k ≡ length es → IsDrawn n parents within flow seen
  drawing_end es k seen s all = record {
    inside = s.inside;
    along = λ t p m a b.
        let f = s.lists.only t m in
        s.along f.0 p (omega (arith, f.1, all)) (ap (λ (x : ℕ). set.contains (parents_at parents x) p) f.2 ∙ a) b;
    against = λ t c m h a.
        let f = s.lists.only t m in
        s.against f.0 c (omega (arith, f.1, all)) h (subst (λ (x : ℕ). 0 < flow c x) (sym f.2) a);
  }

  -- no more was seen than there is
  pub drawing_few : (es : List Entry) (k : ℕ) (seen : set.FinSet nat_cmp) → IsWithin n within → Drawing n parents within flow place es k seen
      → length es ≤ set.len within
  drawing_few es k seen below s = omega (arith, s.lists.count, set_within seen within s.inside)

-- a place that is answered is the least of a set
pub met_some : (o : Option ℕ) (b : Bool) (s : set.FinSet nat_cmp) → is_some o ≡ b → b ≡ true → MatchOption o (s ≡ set.empty) (IsLeast s)
    → (p : ℕ) × (set.contains s p ≡ true)
met_some None b s e t m = absurd (let f : false ≡ true = e ∙ t in cc)
met_some (Some p) b s e t m = (p, m.member)

pub joined_next : (seen next all : set.FinSet nat_cmp) → all ≡ set.union seen next
    → (t : ℕ) → set.contains next t ≡ true → set.contains all t ≡ true
joined_next seen next all is t m = ap (λ s. set.contains s t) is ∙ to_union_right seen next t m

-- two sets of which one was found to have a place of the other aren't apart
pub not_apart : (seen next past met : set.FinSet nat_cmp) (p : ℕ) → met ≡ set.intersection next past → set.contains met p ≡ true
    → ((t : ℕ) → set.contains next t ≡ true → set.contains seen t ≡ true) → AreApart seen past → ⊥
not_apart seen next past met p is m new apart =
    let both = from_meet next past p (subst (λ s. set.contains s p ≡ true) is m) in
    clash _ both.1 (apart p (new p both.0))

-- ---- the smallest one
-- what holds while places are looked at, those of `left` still to come: the best set so far is drawn, and no drawn set
-- that holds one of the others has fewer places
pub record Seeking (n : ℕ) (parents : List (set.FinSet nat_cmp)) (within : set.FinSet nat_cmp) (flow : ℕ → ℕ → ℕ)
    (best left : set.FinSet nat_cmp) : Type 0 where
  pub drawn : IsDrawn n parents within flow best
  pub some : 0 < set.len best
  pub inside : (t : ℕ) → set.contains left t ≡ true → set.contains within t ≡ true
  pub past : (t : ℕ) (x : set.FinSet nat_cmp) → set.contains within t ≡ true → set.contains left t ≡ false
      → IsDrawn n parents within flow x → set.contains x t ≡ true → set.len best ≤ set.len x

module _ (n : ℕ) (parents : List (set.FinSet nat_cmp)) (within : set.FinSet nat_cmp) (flow : ℕ → ℕ → ℕ) (below : IsWithin n within) where
  pub seeking_start : 0 < set.len within → IsAllowed n parents within flow → Seeking n parents within flow within within
  seeking_start some allowed = record {
    drawn = record { inside = λ t m. m; along = λ t p m a b. b; against = λ t c m h f. (allowed c t h m f).0 };
    some = some;
    inside = λ t m. m;
    past = λ t x m out drawn k. clash _ m out;
  }

  pub seeking_step : (best best' left past found : set.FinSet nat_cmp) (place : ℕ) → Seeking n parents within flow best left
      → set.contains left place ≡ true → past ≡ set.difference within left
      → (AreApart found past → IsDrawn n parents within flow found) → set.contains found place ≡ true
      → IsDrawnBy n parents within flow place found
      → (best' ≡ best) ⊎ ((best' ≡ found) × AreApart found past)
      → set.len best' ≤ set.len best
      → (set.len best' ≤ set.len found) ⊎ ((t : ℕ) × (set.contains found t ≡ true) × (set.contains past t ≡ true))
      → Seeking n parents within flow best' (set.remove left place)
  seeking_step best best' left past found place s m is drawn holds by one first second = record {
    drawn = elim one as (λ _. IsDrawn n parents within flow best') [
      | inl same ↦ subst (IsDrawn n parents within flow) (sym same) s.drawn
      | inr other ↦ subst (IsDrawn n parents within flow) (sym other.0) (drawn other.1)
    ];
    some = elim one as (λ _. 0 < set.len best') [
      | inl same ↦ subst (λ x. 0 < set.len x) (sym same) s.some
      | inr other ↦ subst (λ x. 0 < set.len x) (sym other.0) (counted_some found place holds)
    ];
    inside = λ t k. s.inside t (from_remove left place t k).1;
    past = λ t x inside_ out x_drawn k. elim (cases_eq t place) as (λ _. set.len best' ≤ set.len x) [
      | inl here ↦ this x x_drawn (ap (set.contains x) (sym here) ∙ k)
      | inr other ↦
          let before = s.past t x inside_ (sym (remove_other left place t other) ∙ out) x_drawn k in
          omega (arith, before, first)
    ];
  }
    where
      this : (x : set.FinSet nat_cmp) → IsDrawn n parents within flow x → set.contains x place ≡ true → set.len best' ≤ set.len x
      this x x_drawn k = elim second as (λ _. set.len best' ≤ set.len x) [
        | inl less ↦
            let most = set_within found x (by x x_drawn k) in
            omega (arith, less, most)
        | inr met ↦
            let both = minus_parts within left met.0 (subst (λ q. set.contains q met.0 ≡ true) is met.2) in
            let before = s.past met.0 x both.0 (false_from_ne_true (set.contains left met.0) both.1) x_drawn (by x x_drawn k met.0 met.1) in
            omega (arith, before, first)
      ]

  pub seeking_end : (best left : set.FinSet nat_cmp) → Seeking n parents within flow best left → left ≡ set.empty
      → IsFewestDrawn n parents within flow best
  seeking_end best left s none = record {
    drawn = s.drawn;
    some = s.some;
    fewest = λ x drawn some. elim (set_some x) [
      | inl empty ↦ absurd (omega (arith, empty, some))
      | inr found ↦ s.past found.0 x (drawn.inside found.0 found.1) (ap (λ q. set.contains q found.0) none ∙ contains-empty found.0) drawn found.1
    ];
  }

  -- none has fewer than one
  pub seeking_one : (best left : set.FinSet nat_cmp) → Seeking n parents within flow best left → set.len best ≡ 1
      → IsFewestDrawn n parents within flow best
  seeking_one best left s one = record { drawn = s.drawn; some = s.some; fewest = λ x drawn some. omega (arith, one, some) }

-- as many steps as there are places, for each place that is still to come
pub steps_left : (m before now after l l' : ℕ) → now + l * m ≤ before + m * m → l' < l → after ≤ now + m → after + l' * m ≤ before + m * m
steps_left m before now after l l' h less more =
    let both : (l' + 1) * m ≤ l * m = mul-le-mul_right m (let k : l' + 1 ≤ l = omega (arith, less) in k) in
    let split : (l' + 1) * m ≡ l' * m + m = omega arith in
    omega (arith, h, more, both, split)

-- ---- whether two sets have a place in common
pub apart_of_none : (o : Option ℕ) (b : Bool) (s x met : set.FinSet nat_cmp) → is_some o ≡ not b → b ≡ true → met ≡ set.intersection s x
    → MatchOption o (met ≡ set.empty) (IsLeast met) → AreApart s x
apart_of_none None b s x met e t is m q h = elim (cases_Bool (set.contains x q)) as (λ _. set.contains x q ≡ false) [
  | inl here ↦ absurd (empty_has_none met q (subst (λ z. set.contains z q ≡ true) (sym is) (to_meet s x q h here)) m)
  | inr out ↦ out
]
apart_of_none (Some p) b s x met e t is m q h = absurd (let f : true ≡ false = e ∙ ap not t in cc)

pub met_none : (o : Option ℕ) (b : Bool) (s x met : set.FinSet nat_cmp) → is_some o ≡ not b → b ≡ false → met ≡ set.intersection s x
    → MatchOption o (met ≡ set.empty) (IsLeast met) → (p : ℕ) × (set.contains s p ≡ true) × (set.contains x p ≡ true)
met_none None b s x met e t is m = absurd (let f : false ≡ true = e ∙ ap not t in cc)
met_none (Some p) b s x met e t is m =
    let both = from_meet s x p (subst (λ z. set.contains z p ≡ true) is m.member) in
    (p, both.0, both.1)

pub apart_of_empty : (s x : set.FinSet nat_cmp) → x ≡ set.empty → AreApart s x
apart_of_empty s x none t m = ap (λ z. set.contains z t) none ∙ contains-empty t

-- the places of a network's sets are few
pub few_fit : (w : ℕ) (into : List (set.FinSet nat_cmp)) (amounts : List ℕ) (rest : List ℤ) (s : set.FinSet nat_cmp)
    → IsSized (64 * w) into amounts rest → IsWithin (64 * w) s → set.len s < 2 ^ 64
few_fit w into amounts rest s sized below =
    elim (cases_lt (64 * w) (2 ^ 32)) as (λ _. set.len s < 2 ^ 64) [
      | inl few ↦ omega (arith, few, len_bound (64 * w) s below)
      | inr many ↦ absurd (omega (arith, sized.small, mul-le-mul many many))
    ]
