-- Whether parts are those of a level, one part after the other.
use Rattle.std.proofs.Common.{◌≡◌, ◌↔◌, suc, ◌+◌, ◌≤◌, List, [], ◌∷◌, ◌++◌, map, length, Option, Some, None, pos, ◌+ℤ◌, refl, sym, ap, ◌∙◌, subst, inl, inr, arith}
use Rattle.std.specs.Prelude.{Contains}
use Rattle.std.proofs.lemmas.Int.{ints}
use Rattle.std.proofs.lemmas.List.Sums.{sum_by-cons}
use Rattle.lists.proofs.Entries.{first_of, Contains-head, rest_of, Contains-cases}
use Rattle.fee_rate.proofs.Orders.{same_sum}
use Rattle.fee_rate.specs.declared.rates.Sum.{Sum}
use Rattle.fee_rate.specs.Laws.{joined}
use Rattle.fee_rate.specs.Limits.{IsSum}
use Rattle.graphs.specs.Rates.{sum_of, Falls}
use Rattle.fee_rate.specs.declared.rates.FeeRate.{FeeRate}
use Rattle.diagram.specs.Parts.{rate_of, AreLevelParts, FallsTo, MayFollow}

-- parts fall from the last one before them
abbrev FallsFrom : Option Sum → List Sum → Type 0
FallsFrom None parts = Falls parts
FallsFrom (Some last) parts = Falls (last ∷ parts)

-- what is still asked of parts behind others
pub record FollowOn (last : Option Sum) (end : Sum) (parts : List Sum) : Type 0 where
  falling : FallsFrom last parts
  some : (part : Sum) → Contains parts part → 1 ≤ part.size
  ranged : (part : Sum) → Contains parts part → IsSum part
  fits : (front rest : List Sum) → parts ≡ front ++ rest → IsSum (joined end (sum_of front))

one_more : (end rate : Sum) (front : List Sum) → joined end (sum_of (rate ∷ front)) ≡ joined (joined end rate) (sum_of front)
one_more end rate front =
    same_sum (joined end (sum_of (rate ∷ front))) (joined (joined end rate) (sum_of front))
    (omega (arith, ints)) (omega (arith, sum_by-cons (λ (p : Sum). p.size) rate front))

none_more : (end : Sum) → joined end (sum_of []) ≡ end
none_more end = same_sum (joined end (sum_of [])) end (omega (arith, ints)) (omega arith)

falls_apart : (last : Option Sum) (rate : Sum) (rest : List Sum) → FallsFrom last (rate ∷ rest) → FallsTo last rate × Falls (rate ∷ rest)
falls_apart None rate rest falls = (tt, falls)
falls_apart (Some other) rate rest falls = (falls.0, falls.1)

falls_joined : (last : Option Sum) (rate : Sum) (rest : List Sum) → FallsTo last rate → Falls (rate ∷ rest) → FallsFrom last (rate ∷ rest)
falls_joined None rate rest to falls = falls
falls_joined (Some other) rate rest to falls = (to, falls)

pub follow_apart : (last : Option Sum) (end rate : Sum) (rest : List Sum) → FollowOn last end (rate ∷ rest)
    → MayFollow last end rate × FollowOn (Some rate) (joined end rate) rest
follow_apart last end rate rest follow =
    let falls = falls_apart last rate rest follow.falling in (
      record {
        some = follow.some rate (Contains-head rate rest);
        ranged = follow.ranged rate (Contains-head rate rest);
        falling = falls.0;
        fits = subst IsSum (one_more end rate [] ∙ none_more (joined end rate)) (follow.fits (rate ∷ []) rest refl);
      },
      record {
        falling = falls.1;
        some = λ part h. follow.some part (suc h.0, omega (arith, h.1), h.2);
        ranged = λ part h. follow.ranged part (suc h.0, omega (arith, h.1), h.2);
        fits = λ front more e. subst IsSum (one_more end rate front) (follow.fits (rate ∷ front) more (ap (λ zs. rate ∷ zs) e));
      },
    )

pub follow_joined : (last : Option Sum) (end rate : Sum) (rest : List Sum) → IsSum end
    → MayFollow last end rate → FollowOn (Some rate) (joined end rate) rest → FollowOn last end (rate ∷ rest)
follow_joined last end rate rest fits may follow = record {
  falling = falls_joined last rate rest may.falling follow.falling;
  some = λ part h. elim (Contains-cases rate part rest h) [ inl same ↦ subst (λ (p : Sum). 1 ≤ p.size) same may.some | inr later ↦ follow.some part later ];
  ranged = λ part h. elim (Contains-cases rate part rest h) [ inl same ↦ subst IsSum same may.ranged | inr later ↦ follow.ranged part later ];
  fits = fronts;
}
  where
    fronts : (front more : List Sum) → rate ∷ rest ≡ front ++ more → IsSum (joined end (sum_of front))
    fronts [] more e = subst IsSum (sym (none_more end)) fits
    fronts (f ∷ front) more e =
        subst (λ z. IsSum (joined end (sum_of (z ∷ front)))) (first_of e) (subst IsSum (sym (one_more end rate front)) (follow.fits front more (rest_of e)))

pub follow_none : (last : Option Sum) (end : Sum) → IsSum end → FollowOn last end []
follow_none last end fits = record {
  falling = nothing last;
  some = λ part h. absurd (omega (arith, h.1));
  ranged = λ part h. absurd (omega (arith, h.1));
  fits = fronts;
}
  where
    nothing : (o : Option Sum) → FallsFrom o []
    nothing None = tt
    nothing (Some other) = tt

    fronts : (front more : List Sum) → [] ≡ front ++ more → IsSum (joined end (sum_of front))
    fronts [] more e = subst IsSum (sym (none_more end)) fits
    fronts (f ∷ front) more e = cc

from_nothing : (front : List Sum) → joined (record { fee = pos 0; size = 0 }) (sum_of front) ≡ sum_of front
from_nothing front = same_sum (joined (record { fee = pos 0; size = 0 }) (sum_of front)) (sum_of front) (omega (arith, ints)) (omega arith)

pub follow_start : (parts : List Sum) → AreLevelParts parts ↔ FollowOn None (record { fee = pos 0; size = 0 }) parts
follow_start parts = (
  λ level.
      record {
        falling = level.falling;
        some = level.some;
        ranged = level.ranged;
        fits = λ front rest e. subst IsSum (sym (from_nothing front))
            (level.fits front rest e);
      },
  λ follow.
      record {
        falling = follow.falling;
        some = follow.some;
        ranged = follow.ranged;
        fits = λ front rest e. subst IsSum (from_nothing front)
            (follow.fits front rest e);
      },
)

-- ---- one part of a list
pub may_first : (last : Option Sum) (end rate : Sum) (first : FeeRate) (rest others : List FeeRate) → FollowOn last end (map rate_of rest)
    → rest ≡ first ∷ others → rate.fee ≡ first.fee → rate.size ≡ first.size → MayFollow last end rate
may_first last end rate first rest others follow e fee size =
    subst (MayFollow last end) (sym (same_sum rate (rate_of first) fee size))
    (follow_apart last end (rate_of first) (map rate_of others) (subst (λ zs. FollowOn last end (map rate_of zs)) e follow)).0

pub follow_further : {All : Type 0} (last : Option Sum) (end rate new : Sum) (first : FeeRate) (rest others : List FeeRate)
    → All ↔ FollowOn last end (map rate_of rest) → rest ≡ first ∷ others → rate.fee ≡ first.fee → rate.size ≡ first.size
    → new.fee ≡ end.fee +ℤ rate.fee → new.size ≡ end.size + rate.size → IsSum end
    → MayFollow last end rate → All ↔ FollowOn (Some rate) new (map rate_of others)
follow_further last end rate new first rest others both e fee size new_fee new_size fits may =
    let is_rate : rate ≡ rate_of first = same_sum rate (rate_of first) fee size in
    let is_new : new ≡ joined end rate = same_sum new (joined end rate) new_fee new_size in
    let list : map rate_of rest ≡ rate ∷ map rate_of others = ap (map rate_of) e ∙ ap (λ (r : Sum). r ∷ map rate_of others) (sym is_rate) in (
      λ all. subst (λ s. FollowOn (Some rate) s (map rate_of others)) (sym is_new)
          (follow_apart last end rate (map rate_of others) (subst (FollowOn last end) list (both.0 all))).1,
      λ follow.
          both.1
          (subst (FollowOn last end) (sym list)
          (follow_joined last end rate (map rate_of others) fits may (subst (λ s. FollowOn (Some rate) s (map rate_of others)) is_new follow))),
    )

pub follow_all : (last : Option Sum) (end : Sum) (rest : List FeeRate) → length rest ≡ 0 → IsSum end → FollowOn last end (map rate_of rest)
follow_all last end [] e fits = follow_none last end fits
follow_all last end (x ∷ rest) e fits = absurd (omega arith)
