-- Lists of parts: members, fees, sums.
use Rattle.std.proofs.Common.{◌≡◌, ◌≤◌, List, [], ◌∷◌, ◌++◌, map, length, ◌↔◌, inl, inr, pos, ◌≤ℤ◌, refl, sym, ap, ◌∙◌, subst, arith}
use Rattle.std.specs.Prelude.{Contains}
use Rattle.std.proofs.lemmas.Int.{ints}
use Rattle.graphs.proofs.CornerLemmas.{sizes-rest}
use Rattle.graphs.proofs.TangentLemmas.{falls-tail}
use Rattle.lists.proofs.Entries.{Contains-head, Contains-later, Contains-cases, none_in_empty, rest_of}
use Rattle.arithmetic.proofs.Products.{scale_keeps, scale_reflects}
use Rattle.fee_rate.specs.declared.rates.Sum.{Sum}
use Rattle.fee_rate.specs.Rates.{AtMost}
use Rattle.graphs.specs.Rates.{Falls}
use Rattle.fee_rate.specs.declared.rates.FeeRate.{FeeRate}
use Rattle.std.proofs.lemmas.List.{map-append}
use Rattle.diagram.specs.Parts.{rate_of}
use Rattle.replacement.specs.Changes.{EndsNonNegative, AreNonNegative, HaveSizes}

-- ---- fees of at least 0
pub non_negative-rest : (x : Sum) (xs : List Sum) → AreNonNegative (x ∷ xs) → AreNonNegative xs
non_negative-rest x xs paid = record {
  fees = λ part h. paid.fees part (Contains-later x part xs h);
  some = λ part h. paid.some part (Contains-later x part xs h);
}

-- a part of at least the rate of one whose fee is at least 0 has such a fee
pays_too : (x y : Sum) → 1 ≤ y.size → AtMost y x → pos 0 ≤ℤ y.fee → pos 0 ≤ℤ x.fee
pays_too x y some low pays =
    let scaled = scale_keeps x.size (pos 0) y.fee pays in
    scale_reflects y.size (pos 0) x.fee (omega arith) (omega (arith, ints, scaled, low.crossed))

ends-rest : (x : Sum) (xs : List Sum) → EndsNonNegative (x ∷ xs) → EndsNonNegative xs
ends-rest x xs ends before last e = ends (x ∷ before) last (ap (λ zs. x ∷ zs) e)

first_non_negative : (x : Sum) (xs : List Sum) → HaveSizes (x ∷ xs) → Falls (x ∷ xs) → EndsNonNegative (x ∷ xs) → pos 0 ≤ℤ x.fee
first_non_negative x [] some falls ends = ends [] x refl
first_non_negative x (y ∷ ys) some falls ends =
    pays_too x y (some y (Contains-later x y (y ∷ ys) (Contains-head y ys))) falls.0
    (first_non_negative y ys (sizes-rest x (y ∷ ys) some) falls.1 (ends-rest x (y ∷ ys) ends))

-- in falling parts all fees are at least 0 where the last one is
pub all_non_negative : (parts : List Sum) → HaveSizes parts → Falls parts → EndsNonNegative parts → AreNonNegative parts
all_non_negative parts some falls ends = record { fees = fees parts some falls ends; some = some }
  where
    fees : (xs : List Sum) → HaveSizes xs → Falls xs → EndsNonNegative xs → (part : Sum) → Contains xs part → pos 0 ≤ℤ part.fee
    fees [] sizes down end part h = absurd (none_in_empty part h)
    fees (x ∷ xs) sizes down end part h = elim (Contains-cases x part xs h) [
      | inl it ↦ subst (λ (p : Sum). pos 0 ≤ℤ p.fee) it (first_non_negative x xs sizes down end)
      | inr later ↦ fees xs (sizes-rest x xs sizes) (falls-tail x xs down) (ends-rest x xs end) part later
    ]

-- ---- the last part
not_at_end : {A : Type 0} (ys : List A) (y : A) → [] ≡ ys ++ y ∷ [] → ⊥
not_at_end [] y e = cc
not_at_end (z ∷ ys) y e = cc

last_same : {A : Type 0} (xs ys : List A) (x y : A) → xs ++ x ∷ [] ≡ ys ++ y ∷ [] → x ≡ y
last_same [] [] x y e = cc
last_same [] (b ∷ ys) x y e = absurd (not_at_end ys y (rest_of e))
last_same (a ∷ xs) [] x y e = absurd (not_at_end xs x (sym (rest_of e)))
last_same (a ∷ xs) (b ∷ ys) x y e = last_same xs ys x y (rest_of e)

pub last_decides : (before : List Sum) (last : Sum) → EndsNonNegative (before ++ last ∷ []) ↔ (pos 0 ≤ℤ last.fee)
last_decides before last = (
  λ ends. ends before last refl,
  λ pays front other e. subst (λ (s : Sum). pos 0 ≤ℤ s.fee) (last_same before front last other e) pays,
)

pub empty_ends : EndsNonNegative []
empty_ends before last e = absurd (not_at_end before last e)

-- the same of a slice
pub ends_by_last : (parts front : List FeeRate) (last : FeeRate) → parts ≡ front ++ last ∷ [] → pos 0 ≤ℤ last.fee ↔ EndsNonNegative (map rate_of parts)
ends_by_last parts front last e =
    let whole : map rate_of parts ≡ map rate_of front ++ rate_of last ∷ [] = ap (map rate_of) e ∙ map-append rate_of front (last ∷ []) in
    let decides = last_decides (map rate_of front) (rate_of last) in
    (λ pays. subst EndsNonNegative (sym whole) (decides.1 pays), λ ends. decides.0 (subst EndsNonNegative whole ends))

pub none_ends : (parts : List FeeRate) → length parts ≡ 0 → EndsNonNegative (map rate_of parts)
none_ends [] e = empty_ends
none_ends (x ∷ xs) e = absurd (omega arith)
