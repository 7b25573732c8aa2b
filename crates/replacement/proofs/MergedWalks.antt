-- Two walks merged: what one call takes, what all calls give, and that it is a level's parts.
use Rattle.std.proofs.Common.{◌≡◌, ℕ, ◌+◌, ◌<◌, ◌≤◌, unsigned_abs, Bool, true, false, cond, T, List, [], ◌∷◌, ◌++◌, inl, inr, Option, Some, None, IfSome, refl, sym, ap, ◌∙◌, subst, arith}
use Rattle.std.specs.Prelude.{Contains, sum_by}
use Rattle.std.specs.Iterator.{AlwaysYields, Count, IsFinite, MakesProgress, size}
use Rattle.std.specs.List.Sorted.{IsPermutation}
use Rattle.std.proofs.lemmas.Int.{ints}
use Rattle.std.proofs.lemmas.List.Elements.{Contains-append_cases, Contains-append_left, Contains-append_right}
use Rattle.std.proofs.lemmas.List.Sums.{sum_by-cons, sum_by-append}
use Rattle.std.proofs.lemmas.List.Sorted.{Contains-permutation, IsPermutation-refl, IsPermutation-sym, IsPermutation-cons, IsPermutation-middle, IsPermutation-trans, sum_by-IsPermutation}
use Rattle.lists.proofs.Entries.{Contains-head, Contains-later, not_empty, first_of, rest_of, Contains-splits}
use Rattle.fee_rate.proofs.Orders.{apart, below_at_most, total}
use Rattle.fee_rate.specs.Limits.{IsSum}
use Rattle.fee_rate.specs.declared.rates.FeeRate.{FeeRate}
use Rattle.fee_rate.specs.declared.rates.Sum.{Sum}
use Rattle.fee_rate.specs.Rates.{AtMost, Below}
use Rattle.graphs.specs.Rates.{sum_of, Falls}
use Rattle.graphs.proofs.TangentLemmas.{falls-tail}
use Rattle.diagram.specs.Parts.{rate_of, AreLevelParts, YieldsParts}
use Rattle.diagram.proofs.StepLemmas.{step_some, step_none}
use Rattle.replacement.specs.Changes.{IsMerged}
use Rattle.replacement.specs.Merging.{AreAhead, AreLeft, BeginsAtMost, BeginsBelow, CanMerge, FewerFitTogether, FitTogether, IsReady, Takes, YieldBoth, count_ahead, merged_left, merged_steps, peeked_left}
use Rattle.replacement.specs.declared.merged.Merged.{Merged}
use Rattle.replacement.specs.declared.merged.Peeked.{Peeked}

-- ---- one walk
pub ahead_after : {S : Type 0} (steps : S → Option FeeRate → S → Type 0) (s t : S) (next : Option FeeRate) (parts : List Sum)
    → AlwaysYields steps rate_of s parts
    → steps s next t → AreAhead next (AlwaysYields steps rate_of t) parts
ahead_after steps s t None parts yields step = step_none steps rate_of s t parts yields step
ahead_after steps s t (Some part) parts yields step = step_some steps rate_of s t part parts yields step

-- a part was taken off what is left
pub taken : {S : Type 0} (steps : S → Option FeeRate → S → Type 0) (walk after : Peeked S) (part : FeeRate) (parts : List Sum) → walk.next ≡ Some part
    → ((more : List Sum) → AlwaysYields steps rate_of walk.rest more → AreLeft steps after more) → AreLeft steps walk parts
    → (more : List Sum) × (parts ≡ rate_of part ∷ more) × AreLeft steps after more
taken steps walk after part parts is advances left =
    let known = subst (λ (o : Option FeeRate). AreAhead o (AlwaysYields steps rate_of walk.rest) parts) is left in
    (known.0, known.1, advances known.0 known.2)

pub begins_most : (rate : Sum) (next : Option FeeRate) (Behind : List Sum → Type 0) (parts : List Sum) → AreAhead next Behind parts
    → IfSome next (λ part. AtMost (rate_of part) rate) → BeginsAtMost rate parts
begins_most rate None Behind parts left low = subst (BeginsAtMost rate) (sym left) tt
begins_most rate (Some part) Behind parts left low = subst (BeginsAtMost rate) (sym left.1) low

pub begins_below : (rate : Sum) (next : Option FeeRate) (Behind : List Sum → Type 0) (parts : List Sum) → AreAhead next Behind parts
    → IfSome next (λ part. Below (rate_of part) rate) → BeginsBelow rate parts
begins_below rate None Behind parts left low = subst (BeginsBelow rate) (sym left) tt
begins_below rate (Some part) Behind parts left low = subst (BeginsBelow rate) (sym left.1) low

-- ---- how many are left
finite_ahead : (next : Option FeeRate) (behind : Count) → ((part : FeeRate) → next ≡ Some part → IsFinite behind) → IsFinite (count_ahead next behind)
finite_ahead None behind ready = tt
finite_ahead (Some part) behind ready = ready part refl

ready_ends : {S : Type 0} (can : S → Type 0) (left : S → Count) (walk : Peeked S) → IsReady can left walk → IsFinite (peeked_left left walk)
ready_ends can left walk ready = finite_ahead walk.next (left walk.rest) (λ part is. (ready part is).1)

both_true : (a b : Bool) → T a → T b → T (cond a b false)
both_true true b one other = other
both_true false b one other = one

pub both_end : {S U : Type 0} (can : S → Type 0) (left : S → Count) (able : U → Type 0) (behind : U → Count) (s : Merged S U)
    → IsReady can left s.one → IsReady able behind s.other
    → IsFinite (merged_left left behind s)
both_end can left able behind s one other =
    both_true (peeked_left left s.one).bounded (peeked_left behind s.other).bounded (ready_ends can left s.one one) (ready_ends able behind s.other other)

one_ahead : (next : Option FeeRate) (part : FeeRate) (behind : Count) → next ≡ Some part → size (count_ahead next behind) ≡ size behind + 1
one_ahead None part behind is = cc
one_ahead (Some other) part behind is = refl

module _ {S U : Type 0} (can : S → Type 0) (steps : S → Option FeeRate → S → Type 0) (left : S → Count)
    (able : U → Type 0) (more : U → Option FeeRate → U → Type 0) (behind : U → Count) (s t : Merged S U) (part : FeeRate)
    (may : CanMerge can steps left able more behind s) where
  -- after a part of the first walk
  module _ (same : t.other ≡ s.other) (is : s.one.next ≡ Some part)
      (advances : (parts : List Sum) → AlwaysYields steps rate_of s.one.rest parts → AreLeft steps t.one parts)
      (ready : IsReady can left t.one) (fewer : size (peeked_left left t.one) < size (left s.one.rest) + 1) where
    one_may : CanMerge can steps left able more behind t
    one_may =
        let got = taken steps s.one t.one part may.ones is advances may.ones_left in
        record {
          one = ready;
          other = subst (IsReady able behind) (sym same) may.other;
          ones = got.0;
          others = may.others;
          ones_left = got.2;
          others_left = subst (λ (walk : Peeked U). AreLeft more walk may.others) (sym same) may.others_left;
        }

    pub one_goes : MakesProgress (CanMerge can steps left able more behind) (merged_left left behind) s (Some part) t
    one_goes = record {
      on = λ finite. (
        one_may,
        both_end can left able behind t one_may.one one_may.other,
        omega (arith, fewer, one_ahead s.one.next part (left s.one.rest) is, ap (λ (walk : Peeked U). size (peeked_left behind walk)) same),
      );
      keeps = one_may;
      rests = λ finite. tt;
    }

  -- after one of the second
  module _ (same : t.one ≡ s.one) (is : s.other.next ≡ Some part)
      (advances : (parts : List Sum) → AlwaysYields more rate_of s.other.rest parts → AreLeft more t.other parts)
      (ready : IsReady able behind t.other) (fewer : size (peeked_left behind t.other) < size (behind s.other.rest) + 1) where
    other_may : CanMerge can steps left able more behind t
    other_may =
        let got = taken more s.other t.other part may.others is advances may.others_left in
        record {
          one = subst (IsReady can left) (sym same) may.one;
          other = ready;
          ones = may.ones;
          others = got.0;
          ones_left = subst (λ (walk : Peeked S). AreLeft steps walk may.ones) (sym same) may.ones_left;
          others_left = got.2;
        }

    pub other_goes : MakesProgress (CanMerge can steps left able more behind) (merged_left left behind) s (Some part) t
    other_goes = record {
      on = λ finite. (
        other_may,
        both_end can left able behind t other_may.one other_may.other,
        omega (arith, fewer, one_ahead s.other.next part (behind s.other.rest) is, ap (λ (walk : Peeked S). size (peeked_left left walk)) same),
      );
      keeps = other_may;
      rests = λ finite. tt;
    }

-- ---- all calls
-- a list is what is taken off two others, part by part
abbrev AreTaken : List Sum → List Sum → List Sum → Type 0
AreTaken ones others [] = (ones ≡ []) × (others ≡ [])
AreTaken ones others (part ∷ level) = (ones_left others_left : List Sum) × Takes part ones others ones_left others_left × AreTaken ones_left others_left level

some_taken : (ones others : List Sum) → (level : List Sum) × AreTaken ones others level
some_taken [] [] = ([], (refl, refl))
some_taken (x ∷ xs) [] = let rest = some_taken xs [] in (x ∷ rest.0, (xs, [], inl (refl, refl, tt), rest.1))
some_taken [] (y ∷ ys) = let rest = some_taken [] ys in (y ∷ rest.0, ([], ys, inr (refl, refl, tt), rest.1))
some_taken (x ∷ xs) (y ∷ ys) = elim (total y x) [
  | inl most ↦ let rest = some_taken xs (y ∷ ys) in (x ∷ rest.0, (xs, y ∷ ys, inl (refl, refl, most), rest.1))
  | inr less ↦ let rest = some_taken (x ∷ xs) ys in (y ∷ rest.0, (x ∷ xs, ys, inr (refl, refl, less), rest.1))
]

takes_some : (part : Sum) (ones others ones_left others_left : List Sum) → Takes part ones others ones_left others_left → ones ≡ [] → others ≡ [] → ⊥
takes_some part ones others ones_left others_left (inl (is, same, low)) none nothing = not_empty (sym is ∙ none)
takes_some part ones others ones_left others_left (inr (is, same, low)) none nothing = not_empty (sym is ∙ nothing)

-- there is one part to take
either_way : (a b : Sum) (ones others xs ys : List Sum) → ones ≡ a ∷ xs → BeginsAtMost a others → others ≡ b ∷ ys → BeginsBelow b ones → ⊥
either_way a b ones others xs ys one most other less =
    apart b a (subst (BeginsBelow b) one less) (subst (BeginsAtMost a) other most)

takes_once : (a b : Sum) (ones others xs ys vs ws : List Sum) → Takes a ones others xs ys → Takes b ones others vs ws → (a ≡ b) × (xs ≡ vs) × (ys ≡ ws)
takes_once a b ones others xs ys vs ws (inl (p, q, low)) (inl (r, s, less)) = (first_of (sym p ∙ r), rest_of (sym p ∙ r), sym q ∙ s)
takes_once a b ones others xs ys vs ws (inl (p, q, low)) (inr (r, s, less)) = absurd (either_way a b ones others xs ws p low r less)
takes_once a b ones others xs ys vs ws (inr (p, q, low)) (inl (r, s, less)) = absurd (either_way b a ones others vs ys r less p low)
takes_once a b ones others xs ys vs ws (inr (p, q, low)) (inr (r, s, less)) = (first_of (sym p ∙ r), sym q ∙ s, rest_of (sym p ∙ r))

always_taken : {S U : Type 0} (steps : S → Option FeeRate → S → Type 0) (more : U → Option FeeRate → U → Type 0) (s : Merged S U) (ones others level : List Sum)
    → AreTaken ones others level → AreLeft steps s.one ones → AreLeft more s.other others → AlwaysYields (merged_steps steps more) rate_of s level
always_taken steps more s ones others [] are one other = λ x t step.
    let found = step ones others one other in
    takes_some (rate_of x) ones others found.0 found.1 found.2 are.0 are.1
always_taken steps more s ones others (part ∷ level) are one other = (
  λ t step. let none = step ones others one other in takes_some part ones others are.0 are.1 are.2 none.0 none.1,
  λ x t step.
      let found = step ones others one other in
      let same = takes_once (rate_of x) part ones others found.0 found.1 are.0 are.1 found.2 are.2 in (
        same.0,
        always_taken steps more t are.0 are.1 level are.3 (subst (AreLeft steps t.one) same.1 found.3) (subst (AreLeft more t.other) same.2 found.4),
      ),
)

-- ---- they are the parts of both lists, and fall
same_with : (part : Sum) (ones others xs ys level : List Sum) → Takes part ones others xs ys → IsPermutation (xs ++ ys) level
    → IsPermutation (ones ++ others) (part ∷ level)
same_with part ones others xs ys level (inl (is, same, low)) rest =
    subst (λ zs. IsPermutation zs (part ∷ level)) (λ i. sym is i ++ sym same i) (IsPermutation-cons part (xs ++ ys) level rest)
same_with part ones others xs ys level (inr (is, same, low)) rest =
    subst (λ zs. IsPermutation zs (part ∷ level)) (λ i. sym same i ++ sym is i)
    (IsPermutation-trans (xs ++ part ∷ ys) (part ∷ (xs ++ ys)) (part ∷ level) (IsPermutation-middle xs part ys) (IsPermutation-cons part (xs ++ ys) level rest))

taken_same : (ones others level : List Sum) → AreTaken ones others level → IsPermutation (ones ++ others) level
taken_same ones others [] are = subst (λ zs. IsPermutation zs []) (λ i. sym are.0 i ++ sym are.1 i) (IsPermutation-refl [])
taken_same ones others (part ∷ level) are = same_with part ones others are.0 are.1 level are.2 (taken_same are.0 are.1 level are.3)

begins_tail : (part : Sum) (parts : List Sum) → Falls (part ∷ parts) → BeginsAtMost part parts
begins_tail part [] falls = tt
begins_tail part (other ∷ parts) falls = falls.0

falls_on : (part : Sum) (parts : List Sum) → BeginsAtMost part parts → Falls parts → Falls (part ∷ parts)
falls_on part [] low falls = tt
falls_on part (other ∷ parts) low falls = (low, falls)

less_most : (part : Sum) (parts : List Sum) → BeginsBelow part parts → BeginsAtMost part parts
less_most part [] less = tt
less_most part (other ∷ parts) less = below_at_most other part less

takes_most : (rate part : Sum) (ones others xs ys : List Sum) → Takes part ones others xs ys → BeginsAtMost rate ones → BeginsAtMost rate others
    → AtMost part rate
takes_most rate part ones others xs ys (inl (is, same, low)) one other = subst (BeginsAtMost rate) is one
takes_most rate part ones others xs ys (inr (is, same, low)) one other = subst (BeginsAtMost rate) is other

taken_begins : (rate : Sum) (ones others level : List Sum) → AreTaken ones others level → BeginsAtMost rate ones → BeginsAtMost rate others
    → BeginsAtMost rate level
taken_begins rate ones others [] are one other = tt
taken_begins rate ones others (part ∷ level) are one other = takes_most rate part ones others are.0 are.1 are.2 one other

-- what is left of two lists that fall still does, behind the part that was taken
record FallBehind (part : Sum) (xs ys : List Sum) : Type 0 where
  one : BeginsAtMost part xs
  other : BeginsAtMost part ys
  one_falls : Falls xs
  other_falls : Falls ys

fall_behind : (part : Sum) (ones others xs ys : List Sum) → Takes part ones others xs ys → Falls ones → Falls others → FallBehind part xs ys
fall_behind part ones others xs ys (inl (is, same, low)) first second =
    let falls = subst Falls is first in
    record {
      one = begins_tail part xs falls;
      other = subst (BeginsAtMost part) same low;
      one_falls = falls-tail part xs falls;
      other_falls = subst Falls same second;
    }
fall_behind part ones others xs ys (inr (is, same, less)) first second =
    let falls = subst Falls is second in
    record {
      one = subst (BeginsAtMost part) same (less_most part ones less);
      other = begins_tail part ys falls;
      one_falls = subst Falls same first;
      other_falls = falls-tail part ys falls;
    }

taken_falls : (ones others level : List Sum) → AreTaken ones others level → Falls ones → Falls others → Falls level
taken_falls ones others [] are first second = tt
taken_falls ones others (part ∷ level) are first second =
    let behind = fall_behind part ones others are.0 are.1 are.2 first second in
    falls_on part level (taken_begins part are.0 are.1 level are.3 behind.one behind.other)
    (taken_falls are.0 are.1 level are.3 behind.one_falls behind.other_falls)

-- ---- parts that fit together
abbrev fee_of : Sum → ℕ
fee_of part = unsigned_abs part.fee

front_sum : (parts : List Sum) → unsigned_abs (sum_of parts).fee ≤ sum_by fee_of parts
front_sum [] = omega (arith, ints)
front_sum (x ∷ xs) = omega (arith, ints, front_sum xs, sum_by-cons fee_of x xs)

fits_same : (parts level : List Sum) → IsPermutation parts level → FitTogether parts → FitTogether level
fits_same parts level same fit = record {
  some = λ part h. fit.some part (Contains-permutation level parts part (IsPermutation-sym parts level same) h);
  fees = omega (arith, fit.fees, sum_by-IsPermutation fee_of parts level same);
  sizes = omega (arith, fit.sizes, sum_by-IsPermutation (λ part. part.size) parts level same);
}

fits_front : (front rest : List Sum) → FitTogether (front ++ rest) → IsSum (sum_of front)
fits_front front rest fit = record {
  fee = omega (arith, front_sum front, fit.fees, sum_by-append fee_of front rest);
  size = omega (arith, fit.sizes, sum_by-append (λ part. part.size) front rest);
}

fits_each : (parts : List Sum) → FitTogether parts → (part : Sum) → Contains parts part → IsSum part
fits_each parts fit part h =
    let cut = Contains-splits parts part h in
    let fees = ap (sum_by fee_of) cut.2 ∙ sum_by-append fee_of cut.0 (part ∷ cut.1) in
    let sizes = ap (sum_by (λ (p : Sum). p.size)) cut.2 ∙ sum_by-append (λ (p : Sum). p.size) cut.0 (part ∷ cut.1) in
    record {
      fee = omega (arith, fit.fees, fees, sum_by-cons fee_of part cut.1);
      size = omega (arith, fit.sizes, sizes, sum_by-cons (λ (p : Sum). p.size) part cut.1);
    }

pub level_parts : (level : List Sum) → Falls level → FitTogether level → AreLevelParts level
level_parts level falls fit = record {
  falling = falls;
  some = fit.some;
  ranged = λ part h. fits_each level fit part h;
  fits = λ front rest is. fits_front front rest (subst FitTogether is fit);
}

pub fewer_fit : FewerFitTogether
fewer_fit alone upper tail level merged fit =
    let all = fits_same level (alone ++ (upper ++ tail)) (IsPermutation-sym (alone ++ (upper ++ tail)) level merged.same) fit in
    let less : (f : Sum → ℕ) → sum_by f (alone ++ tail) ≤ sum_by f (alone ++ (upper ++ tail)) = λ f.
    omega (arith, sum_by-append f alone tail, sum_by-append f alone (upper ++ tail), sum_by-append f upper tail) in
    record {
      some = λ part h. elim (Contains-append_cases alone tail part h) [
        | inl here ↦ all.some part (Contains-append_left alone (upper ++ tail) part here)
        | inr there ↦ all.some part (Contains-append_right alone (upper ++ tail) part (Contains-append_right upper tail part there))
      ];
      fees = omega (arith, all.fees, less fee_of);
      sizes = omega (arith, all.sizes, less (λ part. part.size));
    }

-- what a merged walk gives from its start
pub gives_level : {S U : Type 0} (steps : S → Option FeeRate → S → Type 0) (others : U → Option FeeRate → U → Type 0) (s : S) (u : U)
    (walk : Merged S U) (ones more : List Sum)
    → YieldBoth steps others s u ones more → AreLeft steps walk.one ones → AreLeft others walk.other more
    → (level : List Sum) × IsMerged ones more level × YieldsParts (merged_steps steps others) walk level
gives_level steps others s u walk ones more both one other =
    let found = some_taken ones more in
    let falls = taken_falls ones more found.0 found.1 both.falling both.more_falling in
    let same = taken_same ones more found.0 found.1 in (
      found.0,
      record { falling = falls; same = same },
      record {
        yields = always_taken steps others walk ones more found.0 found.1 one other;
        level = level_parts found.0 falls (fits_same (ones ++ more) found.0 same both.fit);
      },
    )
