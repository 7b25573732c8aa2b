-- One walk over corners, and two side by side.
use Rattle.std.proofs.Common.{◌≡◌, ℕ, suc, ◌≤◌, List, [], ◌∷◌, Option, Some, None, ℤ, refl, sym, ap, ◌∙◌, subst, inl, inr, arith}
use Rattle.std.specs.Prelude.{Contains}
use Rattle.std.specs.Iterator.{AlwaysYields}
use Rattle.std.specs.Ordering.{ordering_reverse}
use Rattle.std.specs.declared.cmp.Ordering.{Ordering}
use Rattle.std.specs.declared.cmp.Ordering.TheVariants.{Less, Equal, Greater}
use Rattle.graphs.proofs.HeightLemmas.{height_early}
use Rattle.lists.proofs.Entries.{not_empty, first_of, rest_of, Contains-head, Contains-later}
use Rattle.std.proofs.lemmas.Option.{same_Some}
use Rattle.fee_rate.proofs.Orders.{same_at_most, same_back, same_chains}
use Rattle.arithmetic.proofs.Rates.{cross_trans_strict_left, cross_trans_strict_right}
use Rattle.fee_rate.specs.declared.rates.Sum.{Sum}
use Rattle.fee_rate.specs.Limits.{InRange}
use Rattle.fee_rate.specs.Rates.{Same, ComparesRates}
use Rattle.graphs.specs.Diagrams.{height_at}
use Rattle.diagram.specs.declared.sides.Side.{Side}
use Rattle.diagram.specs.Points.{Rises}
use Rattle.diagram.specs.Comparisons.{height_from, ArePoints, HasPoints, IsInRange, StandAt, Moves}
use Rattle.diagram.proofs.StepLemmas.{step_some, step_none}
use Rattle.diagram.proofs.HeightLemmas.{height_some, corner_height, fee_of}

-- ---- one walk
pub points_next : {S : Type 0} (steps : S → Option (ℕ × ℤ) → S → Type 0) (s t : S) (r : Option (ℕ × ℤ)) (from : ℕ × ℤ) (more : List (ℕ × ℤ))
    → AlwaysYields steps (λ corner. corner) s more → steps s r t
    → ArePoints from r (AlwaysYields steps (λ corner. corner) t) (from ∷ more)
points_next steps s t None from more yields step = ap (λ points. from ∷ points) (step_none steps (λ corner. corner) s t more yields step)
points_next steps s t (Some next) from more yields step = let found = step_some steps (λ corner. corner) s t next more yields step in
    (found.0, ap (λ points. from ∷ points) found.1, found.2)

pub points_advance : {S : Type 0} (steps : S → Option (ℕ × ℤ) → S → Type 0) (side : Side S) (next : ℕ × ℤ) (t : S) (r : Option (ℕ × ℤ)) (points : List (ℕ × ℤ))
    → side.line.to ≡ Some next → steps side.rest r t → HasPoints steps side points
    → (p : ℕ × ℤ) × (rest : List (ℕ × ℤ)) × (points ≡ p ∷ next ∷ rest) × ArePoints next r (AlwaysYields steps (λ corner. corner) t) (next ∷ rest)
points_advance steps side next t r points to step has =
    let known = subst (λ o. ArePoints side.line.from o (AlwaysYields steps (λ corner. corner) side.rest) points) to has in
    (side.line.from, known.0, known.1, points_next steps side.rest t r next known.0 known.2 step)

-- ---- ranges
first_in_range : (from : ℕ × ℤ) (to : Option (ℕ × ℤ)) (Behind : List (ℕ × ℤ) → Type 0) (points : List (ℕ × ℤ)) (x : ℕ)
    → ArePoints from to Behind points → StandAt points x → InRange from.1 from.0
first_in_range from None Behind points x are stands = stands.ranged from (subst (λ zs. Contains zs from) (sym are) (Contains-head from []))
first_in_range from (Some next) Behind points x are stands = stands.ranged from (subst (λ zs. Contains zs from) (sym are.1) (Contains-head from (next ∷ are.0)))

next_in_range : (from next : ℕ × ℤ) (to : Option (ℕ × ℤ)) (Behind : List (ℕ × ℤ) → Type 0) (points : List (ℕ × ℤ)) (x : ℕ)
    → to ≡ Some next → ArePoints from to Behind points → StandAt points x → InRange next.1 next.0
next_in_range from next None Behind points x e are stands = cc
next_in_range from next (Some other) Behind points x e are stands =
    let same : other ≡ next = same_Some other next e in
    subst (λ (p : ℕ × ℤ). InRange p.1 p.0) same
    (stands.ranged other (subst (λ zs. Contains zs other) (sym are.1) (Contains-later from other (other ∷ are.0) (Contains-head other are.0))))

pub side_in_range : {S : Type 0} (steps : S → Option (ℕ × ℤ) → S → Type 0) (side : Side S) (points : List (ℕ × ℤ)) (x : ℕ)
    → HasPoints steps side points → StandAt points x → IsInRange side.line
side_in_range steps side points x has stands = record {
  from = first_in_range side.line.from side.line.to (AlwaysYields steps (λ corner. corner) side.rest) points x has stands;
  to = λ next e. next_in_range side.line.from next side.line.to (AlwaysYields steps (λ corner. corner) side.rest) points x e has stands;
}

-- ---- heights
height_is : (from : ℕ × ℤ) (to : Option (ℕ × ℤ)) (Behind : List (ℕ × ℤ) → Type 0) (points : List (ℕ × ℤ)) (y : ℕ)
    → ArePoints from to Behind points → ((next : ℕ × ℤ) → to ≡ Some next → y ≤ next.0) → height_at points y ≡ height_from from to y
height_is from None Behind points y are near = ap (λ zs. height_at zs y) are
height_is from (Some next) Behind points y are near = ap (λ zs. height_at zs y) are.1 ∙ height_early from next are.0 y (near next refl)

compares_left : (a b c : Sum) (o : Ordering) → 1 ≤ a.size → 1 ≤ b.size → 1 ≤ c.size → Same a b → ComparesRates b c o → ComparesRates a c o
compares_left a b c Less p q r same less = record {
  crossed = cross_trans_strict_right a.fee b.fee c.fee a.size b.size c.size (omega arith)
      (omega arith) (same_at_most a b same).crossed less.crossed;
}
compares_left a b c Equal p q r same equal = same_chains a b c q same equal
compares_left a b c Greater p q r same more = record {
  crossed = cross_trans_strict_left c.fee b.fee a.fee c.size b.size a.size (omega arith)
      (omega arith) more.crossed (same_at_most b a (same_back a b same)).crossed;
}

pub compares_back : (a b : Sum) (o : Ordering) → ComparesRates a b o → ComparesRates b a (ordering_reverse o)
compares_back a b Less less = less
compares_back a b Equal same = same_back a b same
compares_back a b Greater more = more

-- ---- two walks
rest_stands : (p next : ℕ × ℤ) (rest points : List (ℕ × ℤ)) (x : ℕ) → points ≡ p ∷ next ∷ rest → StandAt points x → StandAt (next ∷ rest) next.0
rest_stands p next rest points x whole stands =
    let rising : Rises (p ∷ next ∷ rest) = subst Rises whole stands.rising in
    record {
      rising = rising.1;
      ranged = λ point h. stands.ranged point (subst (λ zs. Contains zs point) (sym whole) (suc h.0, omega (arith, h.1), h.2));
      from = λ q others e. subst (λ (r : ℕ × ℤ). r.0 ≤ next.0) (first_of e) (omega arith);
      to = λ q r others e. to_next rest rising.1 q r others e;
    }
  where
    to_next : (zs : List (ℕ × ℤ)) → Rises (next ∷ zs) → (q r : ℕ × ℤ) (others : List (ℕ × ℤ)) → next ∷ zs ≡ q ∷ r ∷ others → next.0 ≤ r.0
    to_next [] rises q r others e = absurd (not_empty (sym (rest_of e)))
    to_next (z ∷ zs) rises q r others e = subst (λ (k : ℕ × ℤ). next.0 ≤ k.0) (first_of (rest_of e)) (omega (arith, rises.0))

still_stands : (points : List (ℕ × ℤ)) (x y : ℕ) → x ≤ y → StandAt points x
    → ((p q : ℕ × ℤ) (rest : List (ℕ × ℤ)) → points ≡ p ∷ q ∷ rest → y ≤ q.0) → StandAt points y
still_stands points x y later stands near = record {
  rising = stands.rising;
  ranged = stands.ranged;
  from = λ p rest e. omega (arith, stands.from p rest e);
  to = near;
}

-- the next corner of an iterator's walk bounds its list's
near_next : (from : ℕ × ℤ) (to : Option (ℕ × ℤ)) (Behind : List (ℕ × ℤ) → Type 0) (points : List (ℕ × ℤ)) (y : ℕ)
    → ArePoints from to Behind points → ((next : ℕ × ℤ) → to ≡ Some next → y ≤ next.0)
    → (p q : ℕ × ℤ) (rest : List (ℕ × ℤ)) → points ≡ p ∷ q ∷ rest → y ≤ q.0
near_next from None Behind points y are near p q rest e = absurd (not_empty (sym (rest_of (sym are ∙ e))))
near_next from (Some next) Behind points y are near p q rest e = subst (λ (k : ℕ × ℤ). y ≤ k.0) (first_of (rest_of (sym are.1 ∙ e))) (near next refl)

-- the first walk goes on to its next corner
pub first_moves : {S : Type 0} (steps : S → Option (ℕ × ℤ) → S → Type 0) (other : Side S) (cs ds rest : List (ℕ × ℤ)) (x : ℕ) (p next : ℕ × ℤ) (o : Ordering)
    → cs ≡ p ∷ next ∷ rest → HasPoints steps other ds → StandAt cs x → StandAt ds x
    → ((q : ℕ × ℤ) → other.line.to ≡ Some q → next.0 ≤ q.0)
    → ComparesRates (fee_of next) (height_from other.line.from other.line.to next.0) o → Moves cs ds x (next ∷ rest) ds next.0 o
first_moves steps other cs ds rest x p next o whole has first second near compared =
    let later : x ≤ next.0 = first.to p next rest whole in
    let stands = rest_stands p next rest cs x whole first in
    let height : height_at ds next.0 ≡ height_from other.line.from other.line.to next.0 =
    height_is other.line.from other.line.to (AlwaysYields steps (λ corner. corner) other.rest) ds next.0 has near in
    record {
      later = later;
      first = inr (p, next, rest, whole, refl, refl);
      second = inl refl;
      first_stands = stands;
      second_stands =
          still_stands ds x next.0 later second (near_next other.line.from other.line.to (AlwaysYields steps (λ corner. corner) other.rest) ds next.0 has near);
      compared = compares_left (height_at (next ∷ rest) next.0) (fee_of next) (height_at ds next.0) o
          (height_some (next ∷ rest) stands.rising next.0) (omega arith) (height_some ds second.rising next.0)
          (corner_height next rest stands.rising) (subst (λ s. ComparesRates (fee_of next) s o) (sym height) compared);
    }

swapped : (cs ds more others : List (ℕ × ℤ)) (x y : ℕ) (o : Ordering) → Moves ds cs x others more y o → Moves cs ds x more others y (ordering_reverse o)
swapped cs ds more others x y o moves = record {
  later = moves.later;
  first = moves.second;
  second = moves.first;
  first_stands = moves.second_stands;
  second_stands = moves.first_stands;
  compared = compares_back (height_at others y) (height_at more y) o moves.compared;
}

pub second_moves : {S : Type 0} (steps : S → Option (ℕ × ℤ) → S → Type 0) (other : Side S) (cs ds rest : List (ℕ × ℤ)) (x : ℕ) (p next : ℕ × ℤ) (o : Ordering)
    → ds ≡ p ∷ next ∷ rest → HasPoints steps other cs → StandAt cs x → StandAt ds x
    → ((q : ℕ × ℤ) → other.line.to ≡ Some q → next.0 ≤ q.0) → ComparesRates (fee_of next) (height_from other.line.from other.line.to next.0) o
    → Moves cs ds x cs (next ∷ rest) next.0 (ordering_reverse o)
second_moves steps other cs ds rest x p next o whole has first second near compared =
    swapped cs ds cs (next ∷ rest) x next.0 o (first_moves steps other ds cs rest x p next o whole has second first near compared)

pub last_points : (from : ℕ × ℤ) (to : Option (ℕ × ℤ)) (Behind : List (ℕ × ℤ) → Type 0) (points : List (ℕ × ℤ))
    → to ≡ None → ArePoints from to Behind points → points ≡ from ∷ []
last_points from None Behind points e are = are
last_points from (Some next) Behind points e are = cc
