-- What stands in a level beside others: where the level's fees are at least 0, it is parts of a level, and so are the entries that a test picks.
use Rattle.std.proofs.Common.{◌≡◌, ℕ, ◌*◌, ◌≤◌, unsigned_abs, Bool, true, false, cond, List, [], ◌∷◌, ◌++◌, map, ℤ, pos, negsuc, ◌≤ℤ◌, refl, sym, ap, subst, arith}
use Rattle.std.specs.Prelude.{Contains, filter, sum_by}
use Rattle.std.specs.List.Sorted.{IsPermutation}
use Rattle.std.proofs.lemmas.Int.{ints}
use Rattle.std.proofs.lemmas.List.{append-nil}
use Rattle.std.proofs.lemmas.List.Elements.{Contains-append_left, Contains-append_right}
use Rattle.std.proofs.lemmas.List.Sums.{sum_by-cons, sum_by-append}
use Rattle.std.proofs.lemmas.List.Sorted.{Contains-permutation, IsPermutation-refl, IsPermutation-cons, IsPermutation-middle, IsPermutation-trans, sum_by-IsPermutation}
use Rattle.graphs.proofs.TangentLemmas.{falls-tail}
use Rattle.fee_rate.proofs.Orders.{at_most_chains}
use Rattle.lists.proofs.Entries.{Contains-head, Contains-later}
use Rattle.fee_rate.specs.declared.rates.Sum.{Sum}
use Rattle.fee_rate.specs.Limits.{IsSum}
use Rattle.fee_rate.specs.declared.limits.TheConstants.{MAX_FEE, MAX_TOTAL}
use Rattle.graphs.specs.Rates.{sum_of, Falls}
use Rattle.diagram.specs.Parts.{AreLevelParts}
use Rattle.replacement.specs.Changes.{EndsNonNegative, AreNonNegative, IsEither, IsMerged, ChangesAreLevelParts, TestedPartsMerge, HaveSizes}
use Rattle.replacement.proofs.PartLists.{last_decides, empty_ends, non_negative-rest, all_non_negative}

-- ---- sums of fees of at least 0
abbrev above_zero : ℤ → ℕ
above_zero (pos n) = n
above_zero (negsuc n) = 0

zero_is : (z : ℤ) → pos 0 ≤ℤ z → pos (above_zero z) ≡ z
zero_is (pos n) h = refl
zero_is (negsuc n) h = absurd (omega (arith, ints, h))

abbrev paid : Sum → ℕ
paid part = above_zero part.fee

total_paid : (parts : List Sum) → AreNonNegative parts → (sum_of parts).fee ≡ pos (sum_by paid parts)
total_paid [] all = refl
total_paid (x ∷ xs) all =
    omega (arith, ints, sum_by-cons paid x xs, zero_is x.fee (all.fees x (Contains-head x xs)), total_paid xs (non_negative-rest x xs all))

-- what a level's sum is over the parts that stand alone and the others
split_sum : (f : Sum → ℕ) (alone common level front rest : List Sum) → IsMerged alone common level → alone ≡ front ++ rest → sum_by f front ≤ sum_by f level
split_sum f alone common level front rest merged e =
    omega (arith, sum_by-IsPermutation f (alone ++ common) level merged.same, sum_by-append f alone common, ap (sum_by f) e, sum_by-append f front rest)

-- ---- members
alone_in : (alone common level : List Sum) → IsMerged alone common level → (part : Sum) → Contains alone part → Contains level part
alone_in alone common level merged part h = Contains-permutation (alone ++ common) level part merged.same (Contains-append_left alone common part h)

common_in : (alone common level : List Sum) → IsMerged alone common level → (part : Sum) → Contains common part → Contains level part
common_in alone common level merged part h = Contains-permutation (alone ++ common) level part merged.same (Contains-append_right alone common part h)

-- ---- a level's parts
level_sum : (level : List Sum) → AreLevelParts level → IsSum (sum_of level)
level_sum level parts = parts.fits level [] (sym (append-nil level))

front_fits : (alone common level front rest : List Sum) → AreLevelParts level → AreNonNegative level → AreNonNegative front
    → IsMerged alone common level → alone ≡ front ++ rest → IsSum (sum_of front)
front_fits alone common level front rest parts all here merged e =
    let whole = level_sum level parts in
    let fees = split_sum paid alone common level front rest merged e in
    let most : unsigned_abs (pos (sum_by paid level)) ≤ MAX_FEE * MAX_TOTAL =
    subst (λ (z : ℤ). unsigned_abs z ≤ MAX_FEE * MAX_TOTAL) (total_paid level all) whole.fee in
    let bound : sum_by paid front ≤ MAX_FEE * MAX_TOTAL = omega (arith, fees, most) in
    record {
      fee = subst (λ (z : ℤ). unsigned_abs z ≤ MAX_FEE * MAX_TOTAL) (sym (total_paid front here)) bound;
      size = omega (arith, whole.size, split_sum (λ part. part.size) alone common level front rest merged e);
    }

members_non_negative : (parts level : List Sum) → AreNonNegative level → ((part : Sum) → Contains parts part → Contains level part) → AreNonNegative parts
members_non_negative parts level all inside = record { fees = λ part h. all.fees part (inside part h); some = λ part h. all.some part (inside part h) }

alone_parts : (alone common level : List Sum) → AreLevelParts level → AreNonNegative level → IsMerged alone common level → Falls alone → AreLevelParts alone
alone_parts alone common level parts all merged falls =
    let inside = alone_in alone common level merged in
    record {
      falling = falls;
      some = λ part h. parts.some part (inside part h);
      ranged = λ part h. parts.ranged part (inside part h);
      fits = λ front rest e.
          front_fits alone common level front rest parts all
          (members_non_negative front level all (λ part h. inside part (subst (λ zs. Contains zs part) (sym e) (Contains-append_left front rest part h))))
          merged e;
    }

ends_by_members : (parts : List Sum) → AreNonNegative parts → EndsNonNegative parts
ends_by_members parts all before last e =
    all.fees last (subst (λ zs. Contains zs last) (sym e) (Contains-append_right before (last ∷ []) last (Contains-head last [])))

pub changes_are_level_parts : ChangesAreLevelParts
changes_are_level_parts = record {
  last = last_decides;
  none = empty_ends;
  alone = λ alone common level parts ends merged falls.
      let all = all_non_negative level parts.some parts.falling ends in (
        alone_parts alone common level parts all merged falls,
        ends_by_members alone (members_non_negative alone level all (alone_in alone common level merged)),
      );
  common = λ alone common level parts ends merged.
      members_non_negative common level (all_non_negative level parts.some parts.falling ends) (common_in alone common level merged);
}

-- ---- entries that a test picks
rest_some : {T : Type 0} (rate : T → Sum) (x : T) (xs : List T) → HaveSizes (map rate (x ∷ xs)) → (part : Sum) → Contains (map rate xs) part → 1 ≤ part.size
rest_some rate x xs some part h = some part (Contains-later (rate x) part (map rate xs) h)

-- parts that fall from a part on still do without the first behind it
skips : (x y : Sum) (ys : List Sum) → 1 ≤ y.size → Falls (x ∷ y ∷ ys) → Falls (x ∷ ys)
skips x y [] some falls = tt
skips x y (z ∷ zs) some falls = (at_most_chains z y x some falls.1.0 falls.0, falls.1.1)

-- an entry that may be picked, behind a part
may_follow : {T : Type 0} (rate : T → Sum) (first : Sum) (x : T) (xs : List T) (b : Bool) → Falls (first ∷ rate x ∷ map rate xs)
    → Falls (first ∷ map rate xs) → Falls (first ∷ map rate (cond b (x ∷ xs) xs))
may_follow rate first x xs true with without = with
may_follow rate first x xs false with without = without

-- a part with what a test picks of the falling entries behind it
falls_from : {T : Type 0} (rate : T → Sum) (test : T → Bool) (first : Sum) (entries : List T) → HaveSizes (map rate entries) → Falls (first ∷ map rate entries)
    → Falls (first ∷ map rate (filter test entries))
falls_from rate test first [] some falls = tt
falls_from rate test first (x ∷ xs) some falls =
    may_follow rate first x (filter test xs) (test x)
    (falls.0, falls_from rate test (rate x) xs (rest_some rate x xs some) falls.1)
    (falls_from rate test first xs (rest_some rate x xs some) (skips first (rate x) (map rate xs) (some (rate x) (Contains-head (rate x) (map rate xs))) falls))

may_begin : {T : Type 0} (rate : T → Sum) (x : T) (xs : List T) (b : Bool) → Falls (rate x ∷ map rate xs) → Falls (map rate (cond b (x ∷ xs) xs))
may_begin rate x xs true falls = falls
may_begin rate x xs false falls = falls-tail (rate x) (map rate xs) falls

picked_fall : {T : Type 0} (rate : T → Sum) (test : T → Bool) (entries : List T) → HaveSizes (map rate entries) → Falls (map rate entries)
    → Falls (map rate (filter test entries))
picked_fall rate test [] some falls = tt
picked_fall rate test (x ∷ xs) some falls = may_begin rate x (filter test xs) (test x) (falls_from rate test (rate x) xs (rest_some rate x xs some) falls)

-- one more entry, by what the tests say of it
more_merged : (x : Sum) (ps qs rs : List Sum) (a c l : Bool) → IsEither a c l → IsPermutation (ps ++ qs) rs
    → IsPermutation (cond a (x ∷ ps) ps ++ cond c (x ∷ qs) qs) (cond l (x ∷ rs) rs)
more_merged x ps qs rs true true l either same = absurd either
more_merged x ps qs rs true false l either same =
    subst (λ b. IsPermutation (x ∷ ps ++ qs) (cond b (x ∷ rs) rs)) (sym either) (IsPermutation-cons x (ps ++ qs) rs same)
more_merged x ps qs rs false true l either same =
    subst (λ b. IsPermutation (ps ++ x ∷ qs) (cond b (x ∷ rs) rs)) (sym either)
    (IsPermutation-trans (ps ++ x ∷ qs) (x ∷ (ps ++ qs)) (x ∷ rs) (IsPermutation-middle ps x qs) (IsPermutation-cons x (ps ++ qs) rs same))
more_merged x ps qs rs false false l either same = subst (λ b. IsPermutation (ps ++ qs) (cond b (x ∷ rs) rs)) (sym either) same

map_cond : {T : Type 0} (rate : T → Sum) (x : T) (xs : List T) (b : Bool) → map rate (cond b (x ∷ xs) xs) ≡ cond b (rate x ∷ map rate xs) (map rate xs)
map_cond rate x xs true = refl
map_cond rate x xs false = refl

same_merge : {ps qs rs us vs ws : List Sum} → us ≡ ps → vs ≡ qs → ws ≡ rs → IsPermutation (ps ++ qs) rs → IsPermutation (us ++ vs) ws
same_merge one other whole same =
    subst (λ (zs : List Sum × List Sum × List Sum). IsPermutation (zs.0 ++ zs.1) zs.2) (λ i. (sym one i, sym other i, sym whole i)) same

picked_merge : {T : Type 0} (rate : T → Sum) (alone common level : T → Bool) (entries : List T)
    → ((entry : T) → IsEither (alone entry) (common entry) (level entry))
    → IsPermutation (map rate (filter alone entries) ++ map rate (filter common entries)) (map rate (filter level entries))
picked_merge rate alone common level [] either = IsPermutation-refl []
picked_merge rate alone common level (x ∷ xs) either =
    let ps : List Sum = map rate (filter alone xs) in
    let qs : List Sum = map rate (filter common xs) in
    let rs : List Sum = map rate (filter level xs) in
    let more = more_merged (rate x) ps qs rs (alone x) (common x) (level x) (either x) (picked_merge rate alone common level xs either) in
    same_merge (map_cond rate x (filter alone xs) (alone x)) (map_cond rate x (filter common xs) (common x)) (map_cond rate x (filter level xs) (level x)) more

pub tested_parts_merge : {T : Type 0} → TestedPartsMerge T
tested_parts_merge {T} = record {
  falling = picked_fall;
  merged = λ rate alone common level entries some falls either. record {
    falling = picked_fall rate level entries some falls;
    same = picked_merge rate alone common level entries either;
  };
}
