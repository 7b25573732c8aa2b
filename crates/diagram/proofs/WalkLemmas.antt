-- A walk over parts: the segment at hand, as far as it has come.
use Rattle.std.proofs.Common.{◌≡◌, ◌≢◌, ◌⊎◌, ℕ, zero, suc, ◌+◌, ◌<◌, ◌≤◌, map, List, [], ◌∷◌, ◌++◌, Option, ℤ, ◌+ℤ◌, refl, sym, ap, ◌∙◌, subst, arith, inl, inr, append_assoc}
use Rattle.std.specs.Prelude.{Contains, flat_map}
use Rattle.std.specs.Iterator.{AlwaysYields, Count, IsFinite, IsNearerEnd, size}
use Rattle.graphs.proofs.CornerLemmas.{falls-after, joins_first_segment}
use Rattle.fee_rate.proofs.Orders.{same_sum}
use Rattle.lists.proofs.Entries.{not_empty, Contains-head}
use Rattle.fee_rate.specs.declared.rates.FeeRate.{FeeRate}
use Rattle.fee_rate.specs.declared.rates.Sum.{Sum}
use Rattle.fee_rate.specs.Laws.{joined}
use Rattle.std.specs.declared.cmp.Ordering.{Ordering}
use Rattle.std.specs.declared.cmp.Ordering.TheVariants.{Less, Equal, Greater}
use Rattle.std.proofs.lemmas.Int.{ints}
use Rattle.std.proofs.lemmas.List.Sums.{sum_by-cons, sum_by-append}
use Rattle.std.proofs.lemmas.List.Elements.{Contains-append_right, Contains-append_cases}
use Rattle.arithmetic.proofs.Sums.{total-append}
use Rattle.fee_rate.specs.Rates.{AtMost, ComparesRates}
use Rattle.fee_rate.specs.Limits.{IsSum}
use Rattle.graphs.specs.Diagrams.{ends_from, JoinsEqualRates}
use Rattle.graphs.specs.Rates.{sum_of}
use Rattle.diagram.specs.Parts.{rate_of}
use Rattle.diagram.specs.Walks.{FitBehind, TakesSegment, AreAhead, AreLeft, UnlessEnded, WhereTaken, HasCorners, CanGoOn, corners_from, corners_count}
use Rattle.diagram.specs.declared.segments.Ahead.{Ahead}
use Rattle.diagram.specs.declared.segments.Ahead.TheVariants.{Unknown, Part, End}
use Rattle.diagram.specs.declared.segments.Corners.{Corners}

-- Some parts of the first one's rate were taken: their sum with what stood before, and what the iterator still gives.
pub record SoFar {S : Type 0} (steps : S → Option FeeRate → S → Type 0) (before first : Sum) (more : List Sum) (now : S) (end : Sum) : Type 0 where
  pub group : List Sum
  pub rest : List Sum
  pub all : more ≡ group ++ rest
  pub same : (part : Sum) → Contains group part → AtMost first part
  pub end_is : end ≡ joined before (sum_of (first ∷ group))
  pub left : AlwaysYields steps rate_of now rest

not_less : (a b : Sum) (o : Ordering) → ComparesRates a b o → (o ≡ Less → ⊥) → AtMost b a
not_less a b Less compares not = absurd (not refl)
not_less a b Equal compares not = record { crossed = omega (arith, ints, compares.crossed) }
not_less a b Greater compares not = record { crossed = omega (arith, ints, compares.crossed) }

pub plus_assoc : (a b c : Sum) → joined (joined a b) c ≡ joined a (joined b c)
plus_assoc a b c = same_sum (joined (joined a b) c) (joined a (joined b c)) (omega (arith, ints)) (omega arith)

sum_of-snoc : (parts : List Sum) (part : Sum) → sum_of (parts ++ part ∷ []) ≡ joined (sum_of parts) part
sum_of-snoc parts part = same_sum (sum_of (parts ++ part ∷ [])) (joined (sum_of parts) part)
    (omega (arith, ints, total-append (λ (p : Sum). p.fee) parts (part ∷ [])))
    (omega (arith, sum_by-append (λ (p : Sum). p.size) parts (part ∷ []), sum_by-cons (λ (p : Sum). p.size) part []))

-- the segment so far, its next part, and both together are in range
pub record NextFits (end part : Sum) : Type 0 where
  pub now : IsSum end
  pub next : IsSum part
  pub some : 1 ≤ part.size
  pub both : IsSum (joined end part)

pub next_fits : {S : Type 0} (steps : S → Option FeeRate → S → Type 0) (before first : Sum)
    (more : List Sum) (now : S) (end : Sum) (part : Sum) (rest : List Sum)
    → FitBehind before (first ∷ more) → (so : SoFar steps before first more now end) → so.rest ≡ part ∷ rest → NextFits end part
next_fits steps before first more now end part rest level so e =
    let all : first ∷ more ≡ (first ∷ so.group) ++ part ∷ rest = ap (λ zs. first ∷ zs) (so.all ∙ ap (λ zs. so.group ++ zs) e) in
    let here : Contains (first ∷ more) part =
    subst (λ zs. Contains zs part) (sym all) (Contains-append_right (first ∷ so.group) (part ∷ rest) part (Contains-head part rest)) in
    record {
      now = subst IsSum (sym so.end_is) (level.fits (first ∷ so.group) (part ∷ rest) all);
      next = level.ranged part here;
      some = level.some part here;
      both = subst IsSum (ap (λ s. joined before s) (sum_of-snoc (first ∷ so.group) part)
          ∙ sym (plus_assoc before (sum_of (first ∷ so.group)) part) ∙ ap (λ s. joined s part) (sym so.end_is))
          (level.fits ((first ∷ so.group) ++ part ∷ []) rest (all ∙ sym (append_assoc (first ∷ so.group) (part ∷ []) rest)));
    }

-- the first part, with what stood before it, is in range
pub first_fits : (before first : Sum) (more : List Sum) → FitBehind before (first ∷ more) → NextFits before first
first_fits before first more level = record {
  now = subst IsSum (same_sum (joined before (sum_of [])) before (omega (arith, ints)) (omega arith)) (level.fits [] (first ∷ more) refl);
  next = level.ranged first (Contains-head first more);
  some = level.some first (Contains-head first more);
  both = subst IsSum
      (ap (λ s. joined before s) (same_sum (sum_of (first ∷ [])) first (omega (arith, ints)) (omega (arith, sum_by-cons (λ (p : Sum). p.size) first []))))
      (level.fits (first ∷ []) more refl);
}

snoc_cases : (part x : Sum) (parts : List Sum) → Contains (parts ++ x ∷ []) part → Contains parts part ⊎ (x ≡ part)
snoc_cases part x parts h = elim (Contains-append_cases parts (x ∷ []) part h) [
  | inl early ↦ inl early
  | inr (zero, below, same) ↦ inr same
  | inr (suc k, below, same) ↦ absurd (omega (arith, below))
]

-- the next part is of the segment too
pub goes_on : {S : Type 0} (steps : S → Option FeeRate → S → Type 0) (before first part end new : Sum) (more rest : List Sum) (now then : S)
    → (so : SoFar steps before first more now end) → so.rest ≡ part ∷ rest → AlwaysYields steps rate_of then rest
    → (o : Ordering) → ComparesRates part first o → (o ≡ Less → ⊥) → new.fee ≡ end.fee +ℤ part.fee
    → new.size ≡ end.size + part.size → SoFar steps before first more then new
goes_on steps before first part end new more rest now then so e yields o compares not fee size = record {
  group = so.group ++ part ∷ [];
  rest = rest;
  all = so.all ∙ ap (λ zs. so.group ++ zs) e ∙ sym (append_assoc so.group (part ∷ []) rest);
  same = λ other h. elim (snoc_cases other part so.group h) [
    | inl early ↦ so.same other early
    | inr it ↦ subst (λ z. AtMost first z) it (not_less part first o compares not)
  ];
  end_is = same_sum new (joined end part) fee size ∙ ap (λ s. joined s part) so.end_is ∙ plus_assoc before (sum_of (first ∷ so.group)) part
      ∙ ap (λ s. joined before s) (sym (sum_of-snoc (first ∷ so.group) part));
  left = yields;
}

-- ---- one call of a walk

sum_of-append : (xs ys : List Sum) → sum_of (xs ++ ys) ≡ joined (sum_of xs) (sum_of ys)
sum_of-append xs ys =
    same_sum (sum_of (xs ++ ys)) (joined (sum_of xs) (sum_of ys)) (total-append (λ (p : Sum). p.fee) xs ys) (sum_by-append (λ (p : Sum). p.size) xs ys)

-- behind a front, parts of a level are still those of a level
pub level_rest : (before end : Sum) (front after : List Sum) → FitBehind before (front ++ after) → end ≡ joined before (sum_of front) → FitBehind end after
level_rest before end front after level e = record {
  falling = falls-after front after level.falling;
  some = λ part h. level.some part (Contains-append_right front after part h);
  ranged = λ part h. level.ranged part (Contains-append_right front after part h);
  fits = λ early late there.
      let sums : joined before (sum_of (front ++ early)) ≡ joined end (sum_of early) = ap (λ s. joined before s) (sum_of-append front early)
      ∙ sym (plus_assoc before (sum_of front) (sum_of early)) ∙ ap (λ s. joined s (sum_of early)) (sym e) in
      subst IsSum sums (level.fits (front ++ early) late (ap (λ zs. front ++ zs) there ∙ sym (append_assoc front early late)));
}

-- where a part was taken out last, or none was left, the end at hand is no corner that is still to come
corners_after : (a : Ahead) (Fact : Type 0) (end : Sum) (segments : List Sum) → WhereTaken a Fact → corners_from a end segments ≡ ends_from end segments
corners_after Unknown Fact end segments goes = absurd goes
corners_after (Part first) Fact end segments goes = refl
corners_after End Fact end segments goes = refl

pub corners_first : (a : Ahead) (end : Sum) (segments : List Sum) → a ≡ Unknown → corners_from a end segments ≡ (end.size, end.fee) ∷ ends_from end segments
corners_first Unknown end segments e = refl
corners_first (Part first) end segments e = cc
corners_first End end segments e = cc

corners_later : (a : Ahead) (first end : Sum) (segments : List Sum) → a ≡ Part first → corners_from a end segments ≡ ends_from end segments
corners_later Unknown first end segments e = cc
corners_later (Part p) first end segments e = refl
corners_later End first end segments e = cc

corners_none : (a : Ahead) (end : Sum) (segments : List Sum) → a ≡ End → segments ≡ [] → corners_from a end segments ≡ []
corners_none Unknown end segments e none = cc
corners_none (Part p) end segments e none = cc
corners_none End end segments e none = ap (ends_from end) none

no_segments : (segments : List Sum) → JoinsEqualRates [] segments → segments ≡ []
no_segments segments joins = joins.sums ∙ no_groups joins.groups joins.all joins.filled
  where
    no_groups : (groups : List (List Sum)) → [] ≡ flat_map (λ group. group) groups
        → ((group : List Sum) → Contains groups group → group ≢ []) → map sum_of groups ≡ []
    no_groups [] all filled = refl
    no_groups ([] ∷ gs) all filled = absurd (filled [] (0, omega arith, refl) refl)
    no_groups ((x ∷ g) ∷ gs) all filled = absurd (not_empty (sym all))

-- the first call gives the end at hand
pub first_step : {S : Type 0} (steps : S → Option FeeRate → S → Type 0) (Fact : Type 0) (s t : Corners S) (corners : List (ℕ × ℤ))
    → HasCorners steps s corners → s.ahead ≡ Unknown → t.end ≡ s.end
    → ((rest : List Sum) → AlwaysYields steps rate_of s.parts rest → AreLeft steps t rest) → WhereTaken t.ahead Fact
    → (others : List (ℕ × ℤ)) × (corners ≡ (t.end.size, t.end.fee) ∷ others) × HasCorners steps t others
first_step steps Fact s t corners has ahead end left goes =
    let yields = subst (λ a. AreAhead a (AlwaysYields steps rate_of s.parts) has.rest) ahead has.left in
    let same : ends_from s.end has.segments ≡ ends_from t.end has.segments = ap (λ e. ends_from e has.segments) (sym end) in (
      ends_from t.end has.segments,
      has.are ∙ corners_first s.ahead s.end has.segments ahead ∙ ap (λ e. (e.size, e.fee) ∷ ends_from e has.segments) (sym end),
      record {
        rest = has.rest;
        segments = has.segments;
        left = left has.rest yields;
        level = subst (λ e. FitBehind e has.rest) (sym end) has.level;
        joins = has.joins;
        are = sym (corners_after t.ahead Fact t.end has.segments goes);
      },
    )

later_are : (corners : List (ℕ × ℤ)) (a : Ahead) (first end new : Sum) (group segments others : List Sum)
    → corners ≡ corners_from a end segments → a ≡ Part first → segments ≡ sum_of (first ∷ group) ∷ others
    → new ≡ joined end (sum_of (first ∷ group)) → corners ≡ (new.size, new.fee) ∷ ends_from new others
later_are corners a first end new group segments others are ahead cut sum =
    let all : corners_from a end segments ≡ ends_from end (sum_of (first ∷ group) ∷ others) =
    corners_later a first end segments ahead ∙ ap (ends_from end) cut in
    let moved : ends_from end (sum_of (first ∷ group) ∷ others) ≡ (new.size, new.fee) ∷ ends_from new others =
    λ i. ((sym sum i).size, (sym sum i).fee) ∷ ends_from (sym sum i) others in
    are ∙ all ∙ moved

-- a later call gives the end of the segment of the parts that it takes
pub later_step : {S : Type 0} (steps : S → Option FeeRate → S → Type 0) (Fact : Type 0) (first : Sum) (s t : Corners S) (corners : List (ℕ × ℤ))
    → HasCorners steps s corners → s.ahead ≡ Part first
    → ((more : List Sum) → AlwaysYields steps rate_of s.parts more → TakesSegment steps s.end first more t) → WhereTaken t.ahead Fact
    → (others : List (ℕ × ℤ)) × (corners ≡ (t.end.size, t.end.fee) ∷ others) × HasCorners steps t others
later_step steps Fact first s t corners has ahead takes goes =
    let yields = subst (λ a. AreAhead a (AlwaysYields steps rate_of s.parts) has.rest) ahead has.left in
    let took = takes yields.0 yields.2 in
    let all : has.rest ≡ first ∷ took.group ++ took.after = yields.1 ∙ ap (λ zs. first ∷ zs) took.all in
    let level : FitBehind s.end (first ∷ took.group ++ took.after) = subst (FitBehind s.end) all has.level in
    let cut = joins_first_segment first took.group took.after has.segments level.some level.falling took.same took.lower
    (subst (λ zs. JoinsEqualRates zs has.segments) all has.joins) in (
      ends_from t.end cut.0,
      later_are corners s.ahead first s.end t.end took.group has.segments cut.0 has.are ahead cut.1 took.end,
      record {
        rest = took.after;
        segments = cut.0;
        left = took.left;
        level = level_rest s.end t.end (first ∷ took.group) took.after level took.end;
        joins = cut.2;
        are = sym (corners_after t.ahead Fact t.end cut.0 goes);
      },
    )

-- at the end no corner is left
pub end_step : {S : Type 0} (steps : S → Option FeeRate → S → Type 0) (s : Corners S) (corners : List (ℕ × ℤ))
    → HasCorners steps s corners → s.ahead ≡ End → corners ≡ []
end_step steps s corners has ahead =
    let none : has.rest ≡ [] = subst (λ a. AreAhead a (AlwaysYields steps rate_of s.parts) has.rest) ahead has.left in
    has.are ∙ corners_none s.ahead s.end has.segments ahead (no_segments has.segments (subst (λ zs. JoinsEqualRates zs has.segments) none has.joins))

-- ---- a walk may go on, and ends
callable_after : {S : Type 0} (can : S → Type 0) (left : S → Count) (s t : S) (a : Ahead)
    → WhereTaken a (IsNearerEnd can left s t) → UnlessEnded a (can t × IsFinite (left t))
callable_after can left s t Unknown goes = absurd goes
callable_after can left s t (Part first) goes = (goes.0, goes.1)
callable_after can left s t End goes = tt

pub count_after : {S : Type 0} (can : S → Type 0) (left : S → Count) (s t : S) (a : Ahead) → WhereTaken a (IsNearerEnd can left s t)
    → IsFinite (corners_count a (left t)) × (size (corners_count a (left t)) < size (left s) + 1)
count_after can left s t Unknown goes = absurd goes
count_after can left s t (Part first) goes = (goes.1, omega (arith, goes.2))
count_after can left s t End goes = (tt, omega arith)

pub later_goes : {S : Type 0} (can : S → Type 0) (steps : S → Option FeeRate → S → Type 0) (left : S → Count) (first : Sum) (s t : Corners S)
    → CanGoOn can steps left s → s.ahead ≡ Part first
    → ((more : List Sum) → AlwaysYields steps rate_of s.parts more → TakesSegment steps s.end first more t)
    → WhereTaken t.ahead (IsNearerEnd can left s.parts t.parts) → CanGoOn can steps left t
later_goes can steps left first s t go ahead takes goes =
    let yields = subst (λ a. AreAhead a (AlwaysYields steps rate_of s.parts) go.rest) ahead go.are in
    let took = takes yields.0 yields.2 in
    let all : go.rest ≡ (first ∷ took.group) ++ took.after = yields.1 ∙ ap (λ zs. first ∷ zs) took.all in
    record {
      callable = callable_after can left s.parts t.parts t.ahead goes;
      rest = took.after;
      are = took.left;
      level = level_rest s.end t.end (first ∷ took.group) took.after (subst (FitBehind s.end) all go.level) took.end;
    }

pub count_later : (a : Ahead) (first : Sum) (n : Count) (m : ℕ) → a ≡ Part first → m < size n + 1 → m < size (corners_count a n)
count_later Unknown first n m e less = cc
count_later (Part p) first n m e less = less
count_later End first n m e less = cc
