-- The corners that a walk gives, as a list: rising, and in range.
use Rattle.std.proofs.Common.{◌≡◌, ◌≢◌, ℕ, suc, ◌≤◌, List, [], ◌∷◌, map, Option, ℤ, refl, sym, ap, ◌∙◌, subst, arith, inl, inr}
use Rattle.std.specs.Prelude.{Contains, flat_map, pos}
use Rattle.std.specs.Iterator.{AlwaysYields, Count, IsFinite}
use Rattle.std.proofs.lemmas.Int.{ints}
use Rattle.std.proofs.lemmas.List.Sums.{sum_by-cons}
use Rattle.std.proofs.lemmas.List.Elements.{Contains-append_left}
use Rattle.lists.proofs.Entries.{first_of, not_empty, Contains-head, rest_of, Contains-cases}
use Rattle.fee_rate.proofs.Orders.{same_sum}
use Rattle.fee_rate.specs.declared.rates.FeeRate.{FeeRate}
use Rattle.fee_rate.specs.declared.rates.Sum.{Sum}
use Rattle.fee_rate.specs.Laws.{joined}
use Rattle.fee_rate.specs.Limits.{InRange, IsSum}
use Rattle.graphs.specs.Rates.{sum_of}
use Rattle.graphs.specs.Diagrams.{ends_from, corners_of, JoinsEqualRates}
use Rattle.diagram.specs.declared.segments.Corners.{Corners}
use Rattle.diagram.specs.Parts.{rate_of, AreLevelParts, YieldsParts}
use Rattle.diagram.specs.Points.{Rises, AreLevelCorners, YieldsCorners}
use Rattle.diagram.specs.declared.segments.Ahead.TheVariants.{Unknown}
use Rattle.diagram.specs.Walks.{AreAhead, CanGoOn, FitBehind, HasCorners, UnlessEnded, corner_steps}
use Rattle.diagram.proofs.WalkLemmas.{level_rest, corners_first}

-- what is left to a walk is what every run of its calls gives
pub always : {S : Type 0} (steps : S → Option FeeRate → S → Type 0) (s : Corners S) (corners : List (ℕ × ℤ))
    → HasCorners steps s corners → AlwaysYields (corner_steps steps) (λ corner. corner) s corners
always steps s [] has = λ x t step. not_empty (sym (step [] has).1)
always steps s (y ∷ ys) has = (
  λ t step. not_empty (step (y ∷ ys) has),
  λ x t step.
      let found = step (y ∷ ys) has in
      let tails : ys ≡ found.0 = rest_of found.1 in
      (sym (first_of found.1), always steps t ys (subst (HasCorners steps t) (sym tails) found.2)),
)

origin_fits : (before : Sum) (parts : List Sum) → FitBehind before parts → InRange before.fee before.size
origin_fits before parts level = subst IsSum (same_sum (joined before (sum_of [])) before (omega (arith, ints)) (omega arith)) (level.fits [] parts refl)

size_some : (group : List Sum) → group ≢ [] → ((part : Sum) → Contains group part → 1 ≤ part.size) → 1 ≤ (sum_of group).size
size_some [] filled some = absurd (filled refl)
size_some (x ∷ xs) filled some = omega (arith, sum_by-cons (λ (p : Sum). p.size) x xs, some x (Contains-head x xs))

-- the corners from an end on rise, and are in range
record AreGood (corners : List (ℕ × ℤ)) : Type 0 where
  rising : Rises corners
  ranged : (point : ℕ × ℤ) → Contains corners point → InRange point.1 point.0

good_corners : (groups : List (List Sum)) (before : Sum) → FitBehind before (flat_map (λ group. group) groups)
    → ((group : List Sum) → Contains groups group → group ≢ [])
    → AreGood ((before.size, before.fee) ∷ ends_from before (map sum_of groups))
good_corners [] before level filled = record {
  rising = tt;
  ranged = λ point h. elim (Contains-cases (before.size, before.fee) point [] h) [
    | inl same ↦ subst (λ (p : ℕ × ℤ). InRange p.1 p.0) same (origin_fits before [] level)
    | inr none ↦ absurd (omega (arith, none.1))
  ];
}
good_corners (g ∷ gs) before level filled =
    let end : Sum = joined before (sum_of g) in
    let rest =
    good_corners gs end (level_rest before end g (flat_map (λ group. group) gs) level refl) (λ group h. filled group (suc h.0, omega (arith, h.1), h.2)) in
    let some : 1 ≤ (sum_of g).size =
    size_some g (filled g (0, omega arith, refl)) (λ part h. level.some part (Contains-append_left g (flat_map (λ group. group) gs) part h)) in
    record {
      rising = (omega (arith, some), rest.rising);
      ranged = λ point h. elim (Contains-cases (before.size, before.fee) point (ends_from before (map sum_of (g ∷ gs))) h) [
        | inl same ↦ subst (λ (p : ℕ × ℤ). InRange p.1 p.0) same (origin_fits before (flat_map (λ group. group) (g ∷ gs)) level)
        | inr later ↦ rest.ranged point later
      ];
    }

-- parts of a level follow nothing
pub level_fits : (parts : List Sum) → AreLevelParts parts → FitBehind (record { fee = pos 0; size = 0 }) parts
level_fits parts level = record {
  falling = level.falling;
  some = level.some;
  ranged = level.ranged;
  fits = λ front rest e.
      let origin : Sum = record { fee = pos 0; size = 0 } in
      subst IsSum (same_sum (sum_of front) (joined origin (sum_of front)) (omega (arith, ints)) (omega arith)) (level.fits front rest e);
}

-- the corners of a level's parts are those of a level
level_corners : (parts segments : List Sum) → FitBehind (record { fee = pos 0; size = 0 }) parts
    → JoinsEqualRates parts segments → AreLevelCorners (corners_of segments)
level_corners parts segments level joins =
    let origin : Sum = record { fee = pos 0; size = 0 } in
    let good = good_corners joins.groups origin (subst (FitBehind origin) joins.all level) joins.filled in
    let same : corners_of (map sum_of joins.groups) ≡ corners_of segments = ap corners_of (sym joins.sums) in
    record {
      begins = (ends_from origin segments, refl);
      rising = subst Rises same good.rising;
      ranged = λ point h. good.ranged point (subst (λ points. Contains points point) (sym same) h);
    }

-- a walk that took nothing yet gives the corners of its parts
pub fresh_corners : {S : Type 0} (steps : S → Option FeeRate → S → Type 0) (parts : S) (s : Corners S) (list segments : List Sum)
    → s.parts ≡ parts → s.end ≡ record { fee = pos 0; size = 0 } → s.ahead ≡ Unknown
    → YieldsParts steps parts list → JoinsEqualRates list segments → YieldsCorners (corner_steps steps) s (corners_of segments)
fresh_corners steps parts s list segments same end ahead yields joins =
    let left : AlwaysYields steps rate_of s.parts list = subst (λ p. AlwaysYields steps rate_of p list) (sym same) yields.yields in
    record {
      yields = always steps s (corners_of segments)
          (record {
            rest = list;
            segments = segments;
            left = subst (λ a. AreAhead a (AlwaysYields steps rate_of s.parts) list) (sym ahead) left;
            level = subst (λ e. FitBehind e list) (sym end) (level_fits list yields.level);
            joins = joins;
            are = ap (λ e. (e.size, e.fee) ∷ ends_from e segments) (sym end) ∙ sym (corners_first s.ahead s.end segments ahead);
          });
      level = level_corners list segments (level_fits list yields.level) joins;
    }

-- and may go on
pub fresh_goes : {S : Type 0} (can : S → Type 0) (steps : S → Option FeeRate → S → Type 0) (left : S → Count) (parts : S) (s : Corners S) (list : List Sum)
    → s.parts ≡ parts → s.end ≡ record { fee = pos 0; size = 0 } → s.ahead ≡ Unknown
    → can parts → IsFinite (left parts) → YieldsParts steps parts list → CanGoOn can steps left s
fresh_goes can steps left parts s list same end ahead callable finite yields = record {
  callable = subst (λ a. UnlessEnded a (can s.parts × IsFinite (left s.parts))) (sym ahead)
      (subst can (sym same) callable, subst (λ p. IsFinite (left p)) (sym same) finite);
  rest = list;
  are = subst (λ a. AreAhead a (AlwaysYields steps rate_of s.parts) list) (sym ahead) (subst (λ p. AlwaysYields steps rate_of p list) (sym same) yields.yields);
  level = subst (λ e. FitBehind e list) (sym end) (level_fits list yields.level);
}
