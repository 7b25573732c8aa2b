-- Corners: a graph has at most one list of them, and the ends of an optimal order, equal rates joined, are it.
use Rattle.std.proofs.Common.{◌≡◌, ◌≢◌, ℕ, ◌+◌, ◌-◌, ◌<◌, ◌≤◌, List, [], ◌∷◌, ◌++◌, map, inl, inr, ℤ, pos, ◌+ℤ◌, ◌-ℤ◌, ◌*ℤ◌, ◌≤ℤ◌, refl, sym, ap, ◌∙◌, subst, arith, append_assoc}
use Rattle.std.specs.Prelude.{Contains, flat_map}
use Rattle.std.proofs.lemmas.Int.{ints}
use Rattle.std.proofs.lemmas.Bool.{cases_lt}
use Rattle.std.proofs.lemmas.List.Sums.{sum_by-cons, sum_by-append}
use Rattle.std.proofs.lemmas.List.Concat.{flat_map-append}
use Rattle.std.proofs.lemmas.List.Elements.{Contains-append_left, Contains-append_right}
use Rattle.fee_rate.proofs.Orders.{at_most_chains, same_sum, below_at_most, same_at_most, same_back, same_chains, below_at_most_chains, at_most_below}
use Rattle.lists.proofs.Entries.{Contains-head, Contains-later, Contains-cases, none_in_empty, rest_of, first_of, map-Contains, map_cut}
use Rattle.lists.proofs.Flats.{flat_has}
use Rattle.lists.specs.Distinct.{AreDistinct}
use Rattle.arithmetic.proofs.Sums.{total-append}
use Rattle.arithmetic.proofs.Products.{mul-sub_left, mul-sub_right, scale_reflects}
use Rattle.arithmetic.proofs.Rates.{cross_total, sum_above, sum_at_most, sum_at_least}
use Rattle.fee_rate.specs.declared.rates.Sum.{Sum}
use Rattle.fee_rate.specs.Rates.{AtMost, Below, Same}
use Rattle.graphs.specs.Graphs.{Graph}
use Rattle.graphs.specs.Rates.{sum_of, sums, Falls, HasSizes}
use Rattle.graphs.specs.Linearizations.{IsClosedWithin, IsTopological, IsUnderLine, IsUnderDiagram, IsOptimal}
use Rattle.graphs.specs.declared.names.Verdict.{Verdict}
use Rattle.graphs.specs.declared.names.Verdict.TheVariants.{Better, Worse, Equal, Incomparable}
use Rattle.graphs.specs.Diagrams.{Compares, corners_of, FallsStrictly, JoinsEqualRates, AreCorners}
use Rattle.graphs.proofs.TangentLemmas.{joined, falls-tail, falls_after}
use Rattle.graphs.proofs.BestLemmas.{sums_same_members, sum_of-joined, sizes_some, joined-Contains, front_closed, optimal_bounds}

-- ---- sums of lists of sums
sum_parts : ℤ → ℕ → Sum
sum_parts fee size = record { fee = fee; size = size }

abbrev pub HaveSizes : List Sum → Type 0
HaveSizes parts = (part : Sum) → Contains parts part → 1 ≤ part.size

-- what one sum is more than another
abbrev pub beyond : Sum → Sum → Sum
beyond point origin = record { fee = point.fee -ℤ origin.fee; size = point.size - origin.size }

abbrev pub plus : Sum → Sum → Sum
plus a b = record { fee = a.fee +ℤ b.fee; size = a.size + b.size }

pub size_of-cons : (x : Sum) (xs : List Sum) → (sum_of (x ∷ xs)).size ≡ x.size + (sum_of xs).size
size_of-cons x xs = sum_by-cons (λ part. part.size) x xs

pub sum_of-append : (xs ys : List Sum) → sum_of (xs ++ ys) ≡ plus (sum_of xs) (sum_of ys)
sum_of-append xs ys = same_sum _ _ (total-append (λ part. part.fee) xs ys) (sum_by-append (λ part. part.size) xs ys)

sum_of-one : (x : Sum) → sum_of (x ∷ []) ≡ x
sum_of-one x = same_sum (sum_of (x ∷ [])) x (omega (arith, ints)) (omega (arith, size_of-cons x []))

pub sizes-rest : (x : Sum) (xs : List Sum) → HaveSizes (x ∷ xs) → HaveSizes xs
sizes-rest x xs some part h = some part (Contains-later x part xs h)

front_size : (xs before after : List Sum) → xs ≡ before ++ after → (sum_of before).size ≤ (sum_of xs).size
front_size xs before after e = omega (arith, ap (λ zs. (sum_of zs).size) e, sum_by-append (λ part. part.size) before after)

strict-rest : (x : Sum) (xs : List Sum) → FallsStrictly (x ∷ xs) → FallsStrictly xs
strict-rest x [] falls = tt
strict-rest x (y ∷ ys) falls = falls.1

pub strict_falls : (xs : List Sum) → FallsStrictly xs → Falls xs
strict_falls [] falls = tt
strict_falls (x ∷ []) falls = tt
strict_falls (x ∷ y ∷ ys) falls = (below_at_most y x falls.0, strict_falls (y ∷ ys) falls.1)

-- ---- a line, with its origin moved
line_rate : (origin part point : Sum) → origin.size ≤ point.size → IsUnderLine origin part point → AtMost (beyond point origin) part
line_rate origin part point from line =
    let e : pos point.size -ℤ pos origin.size ≡ pos (point.size - origin.size) = omega (arith, ints) in
    record { crossed = subst (λ (z : ℤ). ((point.fee -ℤ origin.fee) *ℤ pos part.size) ≤ℤ (part.fee *ℤ z)) e line }

rate_line : (origin part point : Sum) → origin.size ≤ point.size → AtMost (beyond point origin) part → IsUnderLine origin part point
rate_line origin part point from low =
    let e : pos (point.size - origin.size) ≡ pos point.size -ℤ pos origin.size = omega (arith, ints) in
    subst (λ (z : ℤ). ((point.fee -ℤ origin.fee) *ℤ pos part.size) ≤ℤ (part.fee *ℤ z)) e low.crossed

line_beyond : (x origin part point : Sum) → x.size ≤ point.size → IsUnderLine (plus x origin) part point → IsUnderLine origin part (beyond point x)
line_beyond x origin part point from line =
    let fees : point.fee -ℤ (x.fee +ℤ origin.fee) ≡ (point.fee -ℤ x.fee) -ℤ origin.fee = omega (arith, ints) in
    let sizes : pos point.size -ℤ pos (x.size + origin.size) ≡ pos (point.size - x.size) -ℤ pos origin.size = omega (arith, ints) in
    subst (λ (z : ℤ). (((point.fee -ℤ x.fee) -ℤ origin.fee) *ℤ pos part.size) ≤ℤ (part.fee *ℤ z)) sizes
    (subst (λ (z : ℤ). (z *ℤ pos part.size) ≤ℤ (part.fee *ℤ (pos point.size -ℤ pos (x.size + origin.size)))) fees line)

-- what is true of the rest behind x is true of x with it
rate_back : (point x : Sum) → x.size ≤ point.size → AtMost (beyond point x) x → AtMost point x
rate_back point x from low =
    let e : pos (point.size - x.size) ≡ pos point.size -ℤ pos x.size = omega (arith, ints) in
    let left = mul-sub_left point.fee x.fee (pos x.size) in
    let right : x.fee *ℤ pos (point.size - x.size) ≡ (x.fee *ℤ pos point.size) -ℤ (x.fee *ℤ pos x.size) =
    ap (λ (z : ℤ). x.fee *ℤ z) e ∙ mul-sub_right x.fee (pos point.size) (pos x.size) in
    record { crossed = omega (arith, ints, low.crossed, left, right) }

rate_back_strict : (point x : Sum) → x.size ≤ point.size → Below (beyond point x) x → Below point x
rate_back_strict point x from low =
    let e : pos (point.size - x.size) ≡ pos point.size -ℤ pos x.size = omega (arith, ints) in
    let left = mul-sub_left point.fee x.fee (pos x.size) in
    let right : x.fee *ℤ pos (point.size - x.size) ≡ (x.fee *ℤ pos point.size) -ℤ (x.fee *ℤ pos x.size) =
    ap (λ (z : ℤ). x.fee *ℤ z) e ∙ mul-sub_right x.fee (pos point.size) (pos x.size) in
    record { crossed = omega (arith, ints, low.crossed, left, right) }

first_line : (x : Sum) (xs : List Sum) (point : Sum) → IsUnderDiagram (x ∷ xs) point → point.size ≤ x.size → AtMost point x
first_line x xs point under to =
    let line : ((point.fee -ℤ pos 0) *ℤ pos x.size) ≤ℤ (x.fee *ℤ (pos point.size -ℤ pos 0)) = under.lines [] xs x refl (omega arith) (omega arith) in
    let fees : point.fee -ℤ pos 0 ≡ point.fee = omega (arith, ints) in
    let sizes : pos point.size -ℤ pos 0 ≡ pos point.size = omega (arith, ints) in
    record {
      crossed = subst (λ (z : ℤ). (point.fee *ℤ pos x.size) ≤ℤ (x.fee *ℤ z)) sizes
          (subst (λ (z : ℤ). (z *ℤ pos x.size) ≤ℤ (x.fee *ℤ (pos point.size -ℤ pos 0))) fees line);
    }

-- ---- a diagram without its first part
under_rest : (x : Sum) (xs : List Sum) (point : Sum) → 1 ≤ x.size → IsUnderDiagram (x ∷ xs) point
    → x.size ≤ point.size → point.size ≤ (sum_of (x ∷ xs)).size → IsUnderDiagram xs (beyond point x)
under_rest x xs point some under from to = record {
  lines = λ before after part e low high.
      line_beyond x (sum_of before) part point from
      (subst (λ (origin : Sum). IsUnderLine origin part point) (same_sum (sum_of (x ∷ before)) (plus x (sum_of before)) refl (size_of-cons x before))
      (under.lines (x ∷ before) after part (ap (λ zs. x ∷ zs) e) (omega (arith, size_of-cons x before)) (omega (arith, size_of-cons x before))));
  none = λ e.
      let all : (sum_of (x ∷ xs)).size ≡ x.size = ap (λ zs. (sum_of (x ∷ zs)).size) e ∙ ap (λ (s : Sum). s.size) (sum_of-one x) in
      let line = first_line x xs point under (omega arith) in
      let sizes : point.size ≡ x.size = omega arith in
      let fees : point.fee ≤ℤ x.fee =
      scale_reflects x.size point.fee x.fee (omega arith) (subst (λ (n : ℕ). (point.fee *ℤ pos x.size) ≤ℤ (x.fee *ℤ pos n)) sizes line.crossed) in
      omega (arith, ints, fees);
}

-- a point under a diagram has at most the first part's rate, and a lower one behind that part
pub at_first : (x : Sum) (xs : List Sum) (point : Sum) → HaveSizes (x ∷ xs) → Falls (x ∷ xs)
    → IsUnderDiagram (x ∷ xs) point → point.size ≤ (sum_of (x ∷ xs)).size → AtMost point x
at_first x [] point some falls under to = first_line x [] point under (omega (arith, size_of-cons x []))
at_first x (y ∷ ys) point some falls under to = elim (cases_lt x.size point.size) [
  | inl beyond_x ↦
      let rest = under_rest x (y ∷ ys) point (some x (Contains-head x (y ∷ ys))) under (omega arith) to in
      let low = at_first y ys (beyond point x) (sizes-rest x (y ∷ ys) some) falls.1 rest (omega (arith, size_of-cons x (y ∷ ys))) in
      rate_back point x (omega arith) (at_most_chains (beyond point x) y x (some y (Contains-later x y (y ∷ ys) (Contains-head y ys))) low falls.0)
  | inr within ↦ first_line x (y ∷ ys) point under within
]

pub at_later : (x : Sum) (xs : List Sum) (point : Sum) → HaveSizes (x ∷ xs) → FallsStrictly (x ∷ xs)
    → IsUnderDiagram (x ∷ xs) point → x.size < point.size → point.size ≤ (sum_of (x ∷ xs)).size → Below point x
at_later x [] point some falls under from to = absurd (omega (arith, size_of-cons x []))
at_later x (y ∷ ys) point some falls under from to =
    let rest = under_rest x (y ∷ ys) point (some x (Contains-head x (y ∷ ys))) under (omega arith) to in
    let low = at_first y ys (beyond point x) (sizes-rest x (y ∷ ys) some) (strict_falls (y ∷ ys) falls.1) rest (omega (arith, size_of-cons x (y ∷ ys))) in
    rate_back_strict point x (omega arith)
    (at_most_below (beyond point x) y x (omega arith) (some y (Contains-later x y (y ∷ ys) (Contains-head y ys))) low falls.0)

-- ---- at most one list
-- each end of the one is under the other
abbrev pub EndsUnder : List Sum → List Sum → Type 0
EndsUnder xs ys = (before after : List Sum) → xs ≡ before ++ after → IsUnderDiagram ys (sum_of before)

first_under : (x : Sum) (xs ys : List Sum) → EndsUnder (x ∷ xs) ys → IsUnderDiagram ys x
first_under x xs ys ends = subst (λ (point : Sum). IsUnderDiagram ys point) (sum_of-one x) (ends (x ∷ []) xs refl)

first_size : (x y : Sum) (xs ys : List Sum) → HaveSizes (x ∷ xs) → HaveSizes (y ∷ ys) → FallsStrictly (x ∷ xs) → FallsStrictly (y ∷ ys)
    → sum_of (x ∷ xs) ≡ sum_of (y ∷ ys) → EndsUnder (x ∷ xs) (y ∷ ys) → EndsUnder (y ∷ ys) (x ∷ xs) → y.size ≤ x.size
first_size x y xs ys some_x some_y falls_x falls_y all there here = elim (cases_lt x.size y.size) [
  | inl less ↦
      let sizes : (sum_of (x ∷ xs)).size ≡ (sum_of (y ∷ ys)).size = ap (λ (s : Sum). s.size) all in
      let lower = at_later x xs y some_x falls_x (first_under y ys (x ∷ xs) here) less (omega (arith, size_of-cons y ys)) in
      let upper = at_first y ys x some_y (strict_falls (y ∷ ys) falls_y) (first_under x xs (y ∷ ys) there) (omega (arith, size_of-cons x xs)) in
      absurd (omega (arith, ints, lower.crossed, upper.crossed))
  | inr le ↦ le
]

first_fee : (x y : Sum) (xs ys : List Sum) → x.size ≡ y.size → HaveSizes (y ∷ ys) → FallsStrictly (y ∷ ys) → EndsUnder (x ∷ xs) (y ∷ ys) → x.fee ≤ℤ y.fee
first_fee x y xs ys sizes some_y falls_y there =
    let upper = at_first y ys x some_y (strict_falls (y ∷ ys) falls_y) (first_under x xs (y ∷ ys) there) (omega (arith, size_of-cons y ys)) in
    scale_reflects y.size x.fee y.fee (omega (arith, some_y y (Contains-head y ys)))
    (subst (λ (n : ℕ). (x.fee *ℤ pos y.size) ≤ℤ (y.fee *ℤ pos n)) sizes upper.crossed)

ends_rest : (x y : Sum) (xs ys : List Sum) → x ≡ y → 1 ≤ y.size → sum_of (x ∷ xs) ≡ sum_of (y ∷ ys) → EndsUnder (x ∷ xs) (y ∷ ys) → EndsUnder xs ys
ends_rest x y xs ys first some all ends before after e =
    let fees : x.fee ≡ y.fee = ap (λ (s : Sum). s.fee) first in
    let sizes : x.size ≡ y.size = ap (λ (s : Sum). s.size) first in
    let totals : (sum_of (x ∷ xs)).size ≡ (sum_of (y ∷ ys)).size = ap (λ (s : Sum). s.size) all in
    let within = front_size xs before after e in
    let moved : beyond (sum_of (x ∷ before)) y ≡ sum_of before =
    same_sum (beyond (sum_of (x ∷ before)) y) (sum_of before) (omega (arith, ints)) (omega (arith, size_of-cons x before)) in
    subst (λ (point : Sum). IsUnderDiagram ys point) moved
    (under_rest y ys (sum_of (x ∷ before)) some (ends (x ∷ before) after (ap (λ zs. x ∷ zs) e))
    (omega (arith, size_of-cons x before)) (omega (arith, size_of-cons x before, size_of-cons x xs)))

pub same_segments : (xs ys : List Sum) → HaveSizes xs → HaveSizes ys → FallsStrictly xs
    → FallsStrictly ys → sum_of xs ≡ sum_of ys → EndsUnder xs ys → EndsUnder ys xs → xs ≡ ys
same_segments [] [] some_x some_y falls_x falls_y all there here = refl
same_segments [] (y ∷ ys) some_x some_y falls_x falls_y all there here =
    let sizes : 0 ≡ (sum_of (y ∷ ys)).size = ap (λ (s : Sum). s.size) all in
    absurd (omega (arith, size_of-cons y ys, some_y y (Contains-head y ys)))
same_segments (x ∷ xs) [] some_x some_y falls_x falls_y all there here =
    let sizes : (sum_of (x ∷ xs)).size ≡ 0 = ap (λ (s : Sum). s.size) all in
    absurd (omega (arith, size_of-cons x xs, some_x x (Contains-head x xs)))
same_segments (x ∷ xs) (y ∷ ys) some_x some_y falls_x falls_y all there here =
    let down = first_size x y xs ys some_x some_y falls_x falls_y all there here in
    let up = first_size y x ys xs some_y some_x falls_y falls_x (sym all) here there in
    let sizes : x.size ≡ y.size = omega arith in
    let low = first_fee x y xs ys sizes some_y falls_y there in
    let high = first_fee y x ys xs (sym sizes) some_x falls_x here in
    let fees : x.fee ≡ y.fee = omega (arith, ints, low, high) in
    let first : x ≡ y = same_sum x y fees sizes in
    let all_fees : (sum_of (x ∷ xs)).fee ≡ (sum_of (y ∷ ys)).fee = ap (λ (s : Sum). s.fee) all in
    let all_sizes : (sum_of (x ∷ xs)).size ≡ (sum_of (y ∷ ys)).size = ap (λ (s : Sum). s.size) all in
    let others : sum_of xs ≡ sum_of ys = same_sum (sum_of xs) (sum_of ys) (omega (arith, ints)) (omega (arith, size_of-cons x xs, size_of-cons y ys)) in
    let rest = same_segments xs ys (sizes-rest x xs some_x) (sizes-rest y ys some_y) (strict-rest x xs falls_x) (strict-rest y ys falls_y) others
    (ends_rest x y xs ys first (some_y y (Contains-head y ys)) all there)
    (ends_rest y x ys xs (sym first) (some_x x (Contains-head x xs)) (sym all) here) in
    λ i. first i ∷ rest i

pub corners_unique : (rate : ℕ → Sum) (graph : Graph) (a b : List (ℕ × ℤ)) → AreCorners rate graph a → AreCorners rate graph b → a ≡ b
corners_unique rate graph a b one other =
    let ends : (p q : List (ℕ × ℤ)) (c : AreCorners rate graph p) (d : AreCorners rate graph q) → EndsUnder c.segments d.segments =
    λ p q c d before after e. (
    let set = c.reached before after e in
    subst (λ (point : Sum). IsUnderDiagram d.segments point) set.2 (d.highest set.0 set.1)) in
    one.between
    ∙ ap corners_of (same_segments one.segments other.segments one.some other.some one.falling other.falling
    (one.whole ∙ sym other.whole) (ends a b one other) (ends b a other one))
    ∙ sym other.between

-- ---- joining equal rates
abbrev pub flat : List (List Sum) → List Sum
flat groups = flat_map (λ group. group) groups

pub sum_of-groups : (groups : List (List Sum)) → sum_of (map sum_of groups) ≡ sum_of (flat groups)
sum_of-groups [] = refl
sum_of-groups (g ∷ gs) =
    let rest = sum_of-groups gs in
    let fees : (sum_of (map sum_of gs)).fee ≡ (sum_of (flat gs)).fee = ap (λ (s : Sum). s.fee) rest in
    let sizes : (sum_of (map sum_of gs)).size ≡ (sum_of (flat gs)).size = ap (λ (s : Sum). s.size) rest in
    same_sum (sum_of (map sum_of (g ∷ gs))) (sum_of (g ++ flat gs))
    (omega (arith, ints, total-append (λ (part : Sum). part.fee) g (flat gs)))
    (omega (arith, size_of-cons (sum_of g) (map sum_of gs), sum_by-append (λ (part : Sum). part.size) g (flat gs)))

flat-Contains : (groups : List (List Sum)) (group : List Sum) (part : Sum) → Contains groups group → Contains group part → Contains (flat groups) part
flat-Contains = flat_has (λ group. group)

group_some : (group : List Sum) → group ≢ [] → HaveSizes group → 1 ≤ (sum_of group).size
group_some [] filled some = absurd (filled refl)
group_some (x ∷ xs) filled some = omega (arith, size_of-cons x xs, some x (Contains-head x xs))

-- a rate that is at most each is at most that of their sum
at_most_sum : (rate : Sum) (parts : List Sum) → ((part : Sum) → Contains parts part → AtMost rate part) → AtMost rate (sum_of parts)
at_most_sum rate [] low = record { crossed = omega (arith, ints) }
at_most_sum rate (x ∷ xs) low =
    let rest = at_most_sum rate xs (λ part h. low part (Contains-later x part xs h)) in
    record {
      crossed = subst (λ (n : ℕ). (rate.fee *ℤ pos n) ≤ℤ ((sum_of (x ∷ xs)).fee *ℤ pos rate.size)) (sym (size_of-cons x xs))
          (sum_at_least x.fee (sum_of xs).fee rate.fee x.size (sum_of xs).size rate.size (low x (Contains-head x xs)).crossed rest.crossed);
    }

-- a point is under the line of each part whose sizes it is among, from an origin on
abbrev IsUnderLines : Sum → List Sum → Sum → Type 0
IsUnderLines origin parts point = (before after : List Sum) (part : Sum) → parts ≡ before ++ part ∷ after
    → (plus origin (sum_of before)).size ≤ point.size → point.size ≤ (plus origin (sum_of before)).size + part.size
    → IsUnderLine (plus origin (sum_of before)) part point

plus_nothing : (origin : Sum) → plus origin (sum_of []) ≡ origin
plus_nothing origin = same_sum (plus origin (sum_of [])) origin (omega (arith, ints)) (omega arith)

plus_later : (origin x : Sum) (before : List Sum) → plus origin (sum_of (x ∷ before)) ≡ plus (plus origin x) (sum_of before)
plus_later origin x before =
    same_sum (plus origin (sum_of (x ∷ before))) (plus (plus origin x) (sum_of before)) (omega (arith, ints)) (omega (arith, size_of-cons x before))

lines-rest : (origin x : Sum) (xs : List Sum) (point : Sum) → IsUnderLines origin (x ∷ xs) point → IsUnderLines (plus origin x) xs point
lines-rest origin x xs point lines before after part e from to =
    subst (λ (o : Sum). IsUnderLine o part point) (plus_later origin x before)
    (lines (x ∷ before) after part (ap (λ zs. x ∷ zs) e) (omega (arith, size_of-cons x before)) (omega (arith, size_of-cons x before)))

line_here : (rate origin x : Sum) (xs : List Sum) (point : Sum) → 1 ≤ x.size → AtMost x rate → IsUnderLines origin (x ∷ xs) point
    → origin.size ≤ point.size → point.size ≤ origin.size + x.size → AtMost (beyond point origin) rate
line_here rate origin x xs point some low lines from to =
    let line = subst (λ (o : Sum). IsUnderLine o x point) (plus_nothing origin) (lines [] xs x refl (omega arith) (omega arith)) in
    at_most_chains (beyond point origin) x rate some (line_rate origin x point from line) low

-- what follows a part of at most a rate has, with it, at most that rate
line_across : (rate origin x point : Sum) → origin.size + x.size ≤ point.size → AtMost x rate
    → AtMost (beyond point (plus origin x)) rate → AtMost (beyond point origin) rate
line_across rate origin x point from low rest =
    let all : plus x (beyond point (plus origin x)) ≡ beyond point origin =
    same_sum (plus x (beyond point (plus origin x))) (beyond point origin) (omega (arith, ints)) (omega arith) in
    subst (λ (s : Sum). AtMost s rate) all
    (record {
      crossed = sum_at_most x.fee (beyond point (plus origin x)).fee rate.fee x.size
          (beyond point (plus origin x)).size rate.size low.crossed rest.crossed;
    })

-- a point under the lines of parts of at most a rate has at most that rate
group_line : (rate : Sum) (group : List Sum) (origin point : Sum) → HaveSizes group → ((part : Sum) → Contains group part → AtMost part rate)
    → IsUnderLines origin group point → group ≢ [] → origin.size ≤ point.size
    → point.size ≤ origin.size + (sum_of group).size → AtMost (beyond point origin) rate
group_line rate [] origin point some low lines filled from to = absurd (filled refl)
group_line rate (x ∷ []) origin point some low lines filled from to =
    line_here rate origin x [] point (some x (Contains-head x [])) (low x (Contains-head x [])) lines from (omega (arith, size_of-cons x []))
group_line rate (x ∷ y ∷ ys) origin point some low lines filled from to = elim (cases_lt (origin.size + x.size) point.size) [
  | inl later ↦ line_across rate origin x point (omega arith) (low x (Contains-head x (y ∷ ys)))
      (group_line rate (y ∷ ys) (plus origin x) point (sizes-rest x (y ∷ ys) some) (λ part h. low part (Contains-later x part (y ∷ ys) h))
      (lines-rest origin x (y ∷ ys) point lines) (λ e. cc) (omega arith) (omega (arith, size_of-cons x (y ∷ ys))))
  | inr within ↦ line_here rate origin x (y ∷ ys) point (some x (Contains-head x (y ∷ ys))) (low x (Contains-head x (y ∷ ys))) lines from within
]

-- a part of a group, among the parts of all groups
part_place : (before after : List (List Sum)) (front rest : List Sum) (part : Sum)
    → flat (before ++ (front ++ part ∷ rest) ∷ after) ≡ (flat before ++ front) ++ part ∷ (rest ++ flat after)
part_place before after front rest part =
    flat_map-append (λ group. group) before ((front ++ part ∷ rest) ∷ after) ∙ ap (λ zs. flat before ++ zs) (append_assoc front (part ∷ rest) (flat after))
    ∙ sym (append_assoc (flat before) front (part ∷ (rest ++ flat after)))

segment_line : (before after : List (List Sum)) (group : List Sum) (point : Sum) → HaveSizes (flat (before ++ group ∷ after)) → group ≢ []
    → ((a b : Sum) → Contains group a → Contains group b → Same a b) → IsUnderDiagram (flat (before ++ group ∷ after)) point
    → (sum_of (flat before)).size ≤ point.size → point.size ≤ (sum_of (flat before)).size + (sum_of group).size
    → IsUnderLine (sum_of (flat before)) (sum_of group) point
segment_line before after group point some filled equal under from to =
    let somes : HaveSizes group = λ part h.
    some part (flat-Contains (before ++ group ∷ after) group part (Contains-append_right before (group ∷ after) group (Contains-head group after)) h) in
    let lows : (part : Sum) → Contains group part → AtMost part (sum_of group) =
    λ part h. at_most_sum part group (λ other there. same_at_most part other (equal part other h there)) in
    let lines : IsUnderLines (sum_of (flat before)) group point = λ front rest part e low high. (
    let place : flat (before ++ group ∷ after) ≡ (flat before ++ front) ++ part ∷ (rest ++ flat after) =
    ap (λ g. flat (before ++ g ∷ after)) e ∙ part_place before after front rest part in
    let origin : sum_of (flat before ++ front) ≡ plus (sum_of (flat before)) (sum_of front) = sum_of-append (flat before) front in
    let size : (sum_of (flat before ++ front)).size ≡ (sum_of (flat before)).size + (sum_of front).size = ap (λ (s : Sum). s.size) origin in
    subst (λ (o : Sum). IsUnderLine o part point) origin (under.lines (flat before ++ front) (rest ++ flat after) part place (omega arith) (omega arith))) in
    rate_line (sum_of (flat before)) (sum_of group) point from
    (group_line (sum_of group) group (sum_of (flat before)) point somes lows lines filled from to)

-- what is under parts is under the segments that they join to
pub joined_under : (groups : List (List Sum)) (point : Sum) → HaveSizes (flat groups) → ((group : List Sum) → Contains groups group → group ≢ [])
    → ((group : List Sum) (a b : Sum) → Contains groups group → Contains group a → Contains group b → Same a b)
    → IsUnderDiagram (flat groups) point → IsUnderDiagram (map sum_of groups) point
joined_under groups point some filled equal under = record {
  lines = λ before after part e low high.
      let cut = map_cut sum_of groups before (part ∷ after) e in
      line_at cut.0 cut.1 before after part cut.2 cut.3 cut.4 low high;
  none = λ e. under.none (nothing groups e);
}
  where
    line_at : (front rest : List (List Sum)) (before after : List Sum) (part : Sum)
        → groups ≡ front ++ rest → before ≡ map sum_of front → part ∷ after ≡ map sum_of rest
        → (sum_of before).size ≤ point.size → point.size ≤ (sum_of before).size + part.size → IsUnderLine (sum_of before) part point
    line_at front [] before after part all start end low high = cc
    line_at front (group ∷ rest) before after part all start end low high =
        let here : part ≡ sum_of group = first_of end in
        let there : Contains groups group =
        subst (λ zs. Contains zs group) (sym all) (Contains-append_right front (group ∷ rest) group (Contains-head group rest)) in
        let origin : sum_of before ≡ sum_of (flat front) = ap sum_of start ∙ sum_of-groups front in
        let size : (sum_of before).size ≡ (sum_of (flat front)).size = ap (λ (s : Sum). s.size) origin in
        let part_size : part.size ≡ (sum_of group).size = ap (λ (s : Sum). s.size) here in
        subst (λ (o : Sum). IsUnderLine o part point) (sym origin)
        (subst (λ (p : Sum). IsUnderLine (sum_of (flat front)) p point) (sym here)
        (segment_line front rest group point (subst (λ zs. HaveSizes (flat zs)) all some) (filled group there) (λ a b. equal group a b there)
        (subst (λ zs. IsUnderDiagram (flat zs) point) all under) (omega arith) (omega arith)))

    nothing : (gs : List (List Sum)) → map sum_of gs ≡ [] → flat gs ≡ []
    nothing [] e = refl
    nothing (g ∷ gs) e = cc

-- ---- the ends of an optimal order
joined_map : (rate : ℕ → Sum) (parts : List (List ℕ)) (groups : List (List Sum))
    → map (sums rate) parts ≡ flat groups → sum_of (flat groups) ≡ sums rate (joined parts)
joined_map rate parts groups e = ap sum_of (sym e) ∙ sum_of-joined rate parts

parts_some : (rate : ℕ → Sum) (graph : Graph) (parts : List (List ℕ))
    → HasSizes rate graph.names → IsOptimal rate graph parts → HaveSizes (map (sums rate) parts)
parts_some rate graph parts some optimal part h =
    let found = map-Contains (sums rate) parts part h in
    subst (λ (p : Sum). 1 ≤ p.size) found.2
    (sizes_some rate found.0 (optimal.chunks.filled found.0 found.1)
    (λ id there. some id ((optimal.order.names id).0 (joined-Contains parts found.0 id found.1 there))))

-- a closed set reaches the end of each segment
end_reached : (rate : ℕ → Sum) (graph : Graph) (parts : List (List ℕ)) (groups : List (List Sum)) (before after : List Sum)
    → IsOptimal rate graph parts → map (sums rate) parts ≡ flat groups
    → map sum_of groups ≡ before ++ after → (set : List ℕ) × IsClosedWithin graph.pairs graph.names set × (sums rate set ≡ sum_of before)
end_reached rate graph parts groups before after optimal all e =
    let cut = map_cut sum_of groups before after e in
    let pieces = map_cut (sums rate) parts (flat cut.0) (flat cut.1) (all ∙ ap flat cut.2 ∙ flat_map-append (λ group. group) cut.0 cut.1) in
    let order : IsTopological graph (joined pieces.0 ++ joined pieces.1) =
    subst (IsTopological graph) (ap joined pieces.2 ∙ flat_map-append (λ part. part) pieces.0 pieces.1) optimal.order in (
      joined pieces.0,
      front_closed graph (joined pieces.0) (joined pieces.1) order,
      sym (joined_map rate pieces.0 cut.0 (sym pieces.3)) ∙ sym (sum_of-groups cut.0) ∙ ap sum_of (sym cut.3),
    )

pub optimal_ends : (rate : ℕ → Sum) (graph : Graph) (parts : List (List ℕ)) (segments : List Sum) → AreDistinct graph.names → HasSizes rate graph.names
    → IsOptimal rate graph parts → JoinsEqualRates (map (sums rate) parts) segments → AreCorners rate graph (corners_of segments)
optimal_ends rate graph parts segments distinct some optimal joins =
    let sizes : HaveSizes (flat joins.groups) = subst HaveSizes joins.all (parts_some rate graph parts some optimal) in
    record {
      segments = segments;
      between = refl;
      some = λ segment h. (
          let found = map-Contains sum_of joins.groups segment (subst (λ zs. Contains zs segment) joins.sums h) in
          subst (λ (s : Sum). 1 ≤ s.size) found.2
          (group_some found.0 (joins.filled found.0 found.1) (λ part there. sizes part (flat-Contains joins.groups found.0 part found.1 there))));
      falling = joins.falling;
      whole = ap sum_of joins.sums ∙ sum_of-groups joins.groups ∙ joined_map rate parts joins.groups joins.all
          ∙ sums_same_members rate (joined parts) graph.names optimal.order.once distinct optimal.order.names;
      reached = λ before after e. end_reached rate graph parts joins.groups before after optimal joins.all (sym joins.sums ∙ e);
      highest = λ set closed. subst (λ zs. IsUnderDiagram zs (sums rate set)) (sym joins.sums)
          (joined_under joins.groups (sums rate set) sizes joins.filled joins.equal
          (subst (λ zs. IsUnderDiagram zs (sums rate set)) joins.all (optimal_bounds rate graph parts set optimal closed)));
    }

-- ---- equal rates join to one list of segments
line_begins : (origin part : Sum) → IsUnderLine origin part origin
line_begins origin part =
    let fees : origin.fee -ℤ origin.fee ≡ pos 0 = omega (arith, ints) in
    let sizes : pos origin.size -ℤ pos origin.size ≡ pos 0 = omega (arith, ints) in
    let left : (origin.fee -ℤ origin.fee) *ℤ pos part.size ≡ pos 0 *ℤ pos part.size = ap (λ (z : ℤ). z *ℤ pos part.size) fees in
    let right : part.fee *ℤ (pos origin.size -ℤ pos origin.size) ≡ part.fee *ℤ pos 0 = ap (λ (z : ℤ). part.fee *ℤ z) sizes in
    omega (arith, ints, left, right)

line_ends : (origin part : Sum) → IsUnderLine origin part (plus origin part)
line_ends origin part =
    let fees : (origin.fee +ℤ part.fee) -ℤ origin.fee ≡ part.fee = omega (arith, ints) in
    let sizes : pos (origin.size + part.size) -ℤ pos origin.size ≡ pos part.size = omega (arith, ints) in
    let left : ((origin.fee +ℤ part.fee) -ℤ origin.fee) *ℤ pos part.size ≡ part.fee *ℤ pos part.size = ap (λ (z : ℤ). z *ℤ pos part.size) fees in
    let right : part.fee *ℤ (pos (origin.size + part.size) -ℤ pos origin.size) ≡ part.fee *ℤ pos part.size = ap (λ (z : ℤ). part.fee *ℤ z) sizes in
    omega (arith, ints, left, right)

line_later : (x y part : Sum) (front before : List Sum) → x ≡ y → IsUnderLine (sum_of before) part (sum_of front)
    → IsUnderLine (sum_of (y ∷ before)) part (sum_of (x ∷ front))
line_later x y part front before same line =
    let x_fee : x.fee ≡ y.fee = ap (λ (s : Sum). s.fee) same in
    let x_size : x.size ≡ y.size = ap (λ (s : Sum). s.size) same in
    let fees : (sum_of front).fee -ℤ (sum_of before).fee ≡ (sum_of (x ∷ front)).fee -ℤ (sum_of (y ∷ before)).fee = omega (arith, ints) in
    let sizes : pos (sum_of front).size -ℤ pos (sum_of before).size ≡ pos (sum_of (x ∷ front)).size -ℤ pos (sum_of (y ∷ before)).size =
    omega (arith, ints, size_of-cons x front, size_of-cons y before) in
    subst (λ (z : ℤ). (((sum_of (x ∷ front)).fee -ℤ (sum_of (y ∷ before)).fee) *ℤ pos part.size) ≤ℤ (part.fee *ℤ z)) sizes
    (subst (λ (z : ℤ). (z *ℤ pos part.size) ≤ℤ (part.fee *ℤ (pos (sum_of front).size -ℤ pos (sum_of before).size))) fees line)

no_size : (parts : List Sum) → HaveSizes parts → (sum_of parts).size ≤ 0 → parts ≡ []
no_size [] some none = refl
no_size (x ∷ xs) some none = absurd (omega (arith, size_of-cons x xs, some x (Contains-head x xs)))

end_line : (front rest before after : List Sum) (part : Sum) → HaveSizes (front ++ rest) → front ++ rest ≡ before ++ part ∷ after
    → (sum_of before).size ≤ (sum_of front).size → (sum_of front).size ≤ (sum_of before).size + part.size → IsUnderLine (sum_of before) part (sum_of front)
end_line [] rest [] after part some e from to = line_begins (sum_of []) part
end_line [] rest (y ∷ before) after part some e from to =
    absurd (omega (arith, size_of-cons y before, some y (subst (λ zs. Contains zs y) (sym e) (Contains-head y (before ++ part ∷ after)))))
end_line (x ∷ front) rest [] after part some e from to =
    let same : x ≡ part = first_of e in
    let size : x.size ≡ part.size = ap (λ (s : Sum). s.size) same in
    let alone : front ≡ [] =
    no_size front (λ p h. some p (Contains-later x p (front ++ rest) (Contains-append_left front rest p h))) (omega (arith, size_of-cons x front)) in
    let point : plus (sum_of []) part ≡ sum_of (x ∷ front) =
    same_sum (plus (sum_of []) part) part (omega (arith, ints)) (omega arith) ∙ sym same ∙ sym (sum_of-one x) ∙ ap (λ zs. sum_of (x ∷ zs)) (sym alone) in
    subst (λ (p : Sum). IsUnderLine (sum_of []) part p) point (line_ends (sum_of []) part)
end_line (x ∷ front) rest (y ∷ before) after part some e from to =
    let same : x ≡ y = first_of e in
    let size : x.size ≡ y.size = ap (λ (s : Sum). s.size) same in
    line_later x y part front before same
    (end_line front rest before after part (λ p h. some p (Contains-later x p (front ++ rest) h)) (rest_of e)
    (omega (arith, size_of-cons x front, size_of-cons y before)) (omega (arith, size_of-cons x front, size_of-cons y before)))

-- the ends of parts are under their own lines
own_end : (parts front rest : List Sum) → HaveSizes parts → parts ≡ front ++ rest → IsUnderDiagram parts (sum_of front)
own_end parts front rest some e = record {
  lines = λ before after part there from to. end_line front rest before after part (subst HaveSizes e some) (sym e ∙ there) from to;
  none = λ there. nothing front rest (sym e ∙ there);
}
  where
    nothing : (xs ys : List Sum) → xs ++ ys ≡ [] → (sum_of xs).fee ≤ℤ pos 0
    nothing [] ys none = omega (arith, ints)
    nothing (x ∷ xs) ys none = cc

segment_sizes : (parts segments : List Sum) → HaveSizes parts → JoinsEqualRates parts segments → HaveSizes segments
segment_sizes parts segments some joins segment h =
    let found = map-Contains sum_of joins.groups segment (subst (λ zs. Contains zs segment) joins.sums h) in
    subst (λ (s : Sum). 1 ≤ s.size) found.2
    (group_some found.0 (joins.filled found.0 found.1)
    (λ part there. some part (subst (λ zs. Contains zs part) (sym joins.all) (flat-Contains joins.groups found.0 part found.1 there))))

segments_sum : (parts segments : List Sum) → JoinsEqualRates parts segments → sum_of segments ≡ sum_of parts
segments_sum parts segments joins = ap sum_of joins.sums ∙ sum_of-groups joins.groups ∙ ap sum_of (sym joins.all)

joined_ends : (parts a b : List Sum) → HaveSizes parts → JoinsEqualRates parts a → JoinsEqualRates parts b → EndsUnder a b
joined_ends parts a b some one other before after e =
    let cut = map_cut sum_of one.groups before after (sym one.sums ∙ e) in
    let all : parts ≡ flat cut.0 ++ flat cut.1 = one.all ∙ ap flat cut.2 ∙ flat_map-append (λ group. group) cut.0 cut.1 in
    let point : sum_of (flat cut.0) ≡ sum_of before = sym (sum_of-groups cut.0) ∙ ap sum_of (sym cut.3) in
    let own = own_end parts (flat cut.0) (flat cut.1) some all in
    subst (λ zs. IsUnderDiagram zs (sum_of before)) (sym other.sums)
    (joined_under other.groups (sum_of before) (subst HaveSizes other.all some) other.filled other.equal
    (subst (λ zs. IsUnderDiagram zs (sum_of before)) other.all (subst (λ (p : Sum). IsUnderDiagram parts p) point own)))

pub joins_one : (parts a b : List Sum) → HaveSizes parts → JoinsEqualRates parts a → JoinsEqualRates parts b → a ≡ b
joins_one parts a b some one other =
    same_segments a b (segment_sizes parts a some one) (segment_sizes parts b some other) one.falling other.falling
    (segments_sum parts a one ∙ sym (segments_sum parts b other)) (joined_ends parts a b some one other) (joined_ends parts b a some other one)

same_both : (a b : Sum) → AtMost a b → AtMost b a → Same a b
same_both a b up down = record { crossed = omega (arith, ints, up.crossed, down.crossed) }

-- the sum of parts of at most a rate has at most that rate
sum_at_most_rate : (rate : Sum) (parts : List Sum) → ((part : Sum) → Contains parts part → AtMost part rate) → AtMost (sum_of parts) rate
sum_at_most_rate rate [] low = record { crossed = omega (arith, ints) }
sum_at_most_rate rate (x ∷ xs) low =
    let rest = sum_at_most_rate rate xs (λ part h. low part (Contains-later x part xs h)) in
    record {
      crossed = subst (λ (n : ℕ). ((sum_of (x ∷ xs)).fee *ℤ pos rate.size) ≤ℤ (rate.fee *ℤ pos n)) (sym (size_of-cons x xs))
          (sum_at_most x.fee (sum_of xs).fee rate.fee x.size (sum_of xs).size rate.size (low x (Contains-head x xs)).crossed rest.crossed);
    }

-- parts cut into groups of equal rate, of which each later one has a lower rate
record Grouping (parts : List Sum) (groups : List (List Sum)) : Type 0 where
  all : parts ≡ flat groups
  filled : (group : List Sum) → Contains groups group → group ≢ []
  equal : (group : List Sum) (a b : Sum) → Contains groups group → Contains group a → Contains group b → Same a b
  falling : FallsStrictly (map sum_of groups)

same_all : (a b : Sum) → a ≡ b → Same a b
same_all a b e = subst (λ z. Same a z) e (record { crossed = refl })

not_empty : {A : Type 0} {x : A} {xs : List A} → x ∷ xs ≢ []
not_empty e = cc

-- a part of the rate of the first group joins it
joins_first : (p q : Sum) (g rest : List Sum) (gs : List (List Sum)) → HaveSizes (p ∷ rest)
    → Contains g q → Same p q → Grouping rest (g ∷ gs) → Grouping (p ∷ rest) ((p ∷ g) ∷ gs)
joins_first p q g rest gs some first same groups =
    let member : (a : Sum) → Contains g a → 1 ≤ a.size =
    λ a h. some a (Contains-later p a rest (subst (λ zs. Contains zs a) (sym groups.all) (Contains-append_left g (flat gs) a h))) in
    let equal : (a b : Sum) → Contains g a → Contains g b → Same a b = λ a b h k. groups.equal g a b (Contains-head g gs) h k in
    let to : (b : Sum) → Contains g b → Same p b = λ b h. same_chains p q b (member q first) same (equal q b first h) in
    record {
      all = ap (λ zs. p ∷ zs) groups.all;
      filled = λ group h. elim (Contains-cases (p ∷ g) group gs h) [
        | inl it ↦ subst (λ (zs : List Sum). zs ≢ []) it not_empty
        | inr later ↦ groups.filled group (Contains-later g group gs later)
      ];
      equal = λ group a b h here there. elim (Contains-cases (p ∷ g) group gs h) [
        | inl it ↦ pairs to equal a b (subst (λ zs. Contains zs a) (sym it) here) (subst (λ zs. Contains zs b) (sym it) there)
        | inr later ↦ groups.equal group a b (Contains-later g group gs later) here there
      ];
      falling = lower gs member to groups.falling (λ group h. (
        groups.filled group (Contains-later g group gs h),
        λ a there. some a
            (Contains-later p a rest (subst (λ zs. Contains zs a) (sym groups.all) (flat-Contains (g ∷ gs) group a (Contains-later g group gs h) there))),
      ));
    }
  where
    pairs : ((b : Sum) → Contains g b → Same p b) → ((a b : Sum) → Contains g a → Contains g b → Same a b)
        → (a b : Sum) → Contains (p ∷ g) a → Contains (p ∷ g) b → Same a b
    pairs to equal a b here there = elim (Contains-cases p a g here) [
      | inl a_is ↦ elim (Contains-cases p b g there) [
        | inl b_is ↦ same_all a b (sym a_is ∙ b_is)
        | inr b_in ↦ subst (λ z. Same z b) a_is (to b b_in)
      ]
      | inr a_in ↦ elim (Contains-cases p b g there) [
        | inl b_is ↦ subst (λ z. Same a z) b_is (same_back p a (to a a_in))
        | inr b_in ↦ equal a b a_in b_in
      ]
    ]

    lower : (hs : List (List Sum)) → ((a : Sum) → Contains g a → 1 ≤ a.size) → ((b : Sum) → Contains g b → Same p b) → FallsStrictly (sum_of g ∷ map sum_of hs)
        → ((group : List Sum) → Contains hs group → (group ≢ []) × HaveSizes group) → FallsStrictly (sum_of (p ∷ g) ∷ map sum_of hs)
    lower [] member to falls filled = tt
    lower (h ∷ hs) member to falls filled =
        let some_p : 1 ≤ p.size = some p (Contains-head p rest) in
        let up : AtMost (sum_of g) p = sum_at_most_rate p g (λ a there. same_at_most a p (same_back p a (to a there))) in
        let whole : plus (sum_of g) p ≡ sum_of (p ∷ g) =
        same_sum (plus (sum_of g) p) (sum_of (p ∷ g)) (omega (arith, ints)) (omega (arith, size_of-cons p g)) in
        let above : AtMost (sum_of g) (sum_of (p ∷ g)) =
        subst (λ z. AtMost (sum_of g) z) whole (record { crossed = sum_above (sum_of g).fee p.fee (sum_of g).size p.size up.crossed }) in (
          below_at_most_chains (sum_of h) (sum_of g) (sum_of (p ∷ g)) (group_some g
              (λ e. none_in_empty q (subst (λ zs. Contains zs q) e first)) member) (omega (arith, size_of-cons p g)) falls.0 above,
          falls.1,
        )

-- a part of a higher rate than the first group's is a group of its own
stands_first : (p q : Sum) (g rest : List Sum) (gs : List (List Sum)) → HaveSizes (p ∷ rest)
    → Contains g q → Below q p → Grouping rest (g ∷ gs) → Grouping (p ∷ rest) ((p ∷ []) ∷ g ∷ gs)
stands_first p q g rest gs some first less groups =
    let member : (a : Sum) → Contains g a → 1 ≤ a.size =
    λ a h. some a (Contains-later p a rest (subst (λ zs. Contains zs a) (sym groups.all) (Contains-append_left g (flat gs) a h))) in
    let low : AtMost (sum_of g) q = sum_at_most_rate q g (λ a h. same_at_most a q (groups.equal g a q (Contains-head g gs) h first)) in
    let size : 1 ≤ (sum_of g).size = group_some g (λ e. none_in_empty q (subst (λ zs. Contains zs q) e first)) member in
    record {
      all = ap (λ zs. p ∷ zs) groups.all;
      filled = λ group h. elim (Contains-cases (p ∷ []) group (g ∷ gs) h) [
        | inl it ↦ subst (λ (zs : List Sum). zs ≢ []) it not_empty
        | inr later ↦ groups.filled group later
      ];
      equal = λ group a b h here there. elim (Contains-cases (p ∷ []) group (g ∷ gs) h) [
        | inl it ↦ same_all a b (sym (only a (subst (λ zs. Contains zs a) (sym it) here)) ∙ only b (subst (λ zs. Contains zs b) (sym it) there))
        | inr later ↦ groups.equal group a b later here there
      ];
      falling = (subst (λ z. Below (sum_of g) z) (sym (sum_of-one p)) (at_most_below (sum_of g) q p size (member q first) low less), groups.falling);
    }
  where
    only : (a : Sum) → Contains (p ∷ []) a → p ≡ a
    only a h = elim (Contains-cases p a [] h) [ inl it ↦ it | inr none ↦ absurd (none_in_empty a none) ]

grouped : (parts : List Sum) → HaveSizes parts → Falls parts → (groups : List (List Sum)) × Grouping parts groups
grouped [] some falls =
    ([], record { all = refl; filled = λ group h. absurd (none_in_empty group h); equal = λ group a b h. absurd (none_in_empty group h); falling = tt })
grouped (p ∷ []) some falls = (
  (p ∷ []) ∷ [],
  record {
    all = refl;
    filled = λ group h.
        elim (Contains-cases (p ∷ []) group [] h) [ inl it ↦ subst (λ (zs : List Sum). zs ≢ []) it not_empty | inr none ↦ absurd (none_in_empty group none) ];
    equal = λ group a b h here there. elim (Contains-cases (p ∷ []) group [] h) [
      | inl it ↦ same_all a b (sym (only a (subst (λ zs. Contains zs a) (sym it) here)) ∙ only b (subst (λ zs. Contains zs b) (sym it) there))
      | inr none ↦ absurd (none_in_empty group none)
    ];
    falling = tt;
  },
)
  where
    only : (a : Sum) → Contains (p ∷ []) a → p ≡ a
    only a h = elim (Contains-cases p a [] h) [ inl it ↦ it | inr none ↦ absurd (none_in_empty a none) ]
grouped (p ∷ q ∷ rest) some falls =
    let found = grouped (q ∷ rest) (sizes-rest p (q ∷ rest) some) falls.1 in
    with_groups found.0 found.1
  where
    with_groups : (gs : List (List Sum)) → Grouping (q ∷ rest) gs → (groups : List (List Sum)) × Grouping (p ∷ q ∷ rest) groups
    with_groups [] groups = absurd (not_empty groups.all)
    with_groups ([] ∷ gs) groups = absurd (groups.filled [] (Contains-head [] gs) refl)
    with_groups ((r ∷ g) ∷ gs) groups =
        let head : q ≡ r = first_of groups.all in
        let first : Contains (r ∷ g) q = subst (λ z. Contains (z ∷ g) q) head (Contains-head q g) in
        elim (cross_total p.fee q.fee p.size q.size) [
          | inl up ↦ ((p ∷ r ∷ g) ∷ gs, joins_first p q (r ∷ g) (q ∷ rest) gs some first (same_both p q (record { crossed = up }) falls.0) groups)
          | inr less ↦ ((p ∷ []) ∷ (r ∷ g) ∷ gs, stands_first p q (r ∷ g) (q ∷ rest) gs some first (record { crossed = less }) groups)
        ]

pub joins_some : (parts : List Sum) → HaveSizes parts → Falls parts → (segments : List Sum) × JoinsEqualRates parts segments
joins_some parts some falls =
    let found = grouped parts some falls in (
      map sum_of found.0,
      record { groups = found.0; all = found.1.all; sums = refl; filled = found.1.filled; equal = found.1.equal; falling = found.1.falling },
    )

pub falls-after : (xs ys : List Sum) → Falls (xs ++ ys) → Falls ys
falls-after [] ys falls = falls
falls-after (x ∷ xs) ys falls = falls-after xs ys (falls-tail x (xs ++ ys) falls)

-- the first segment of parts that are lower than a rate is lower too
segment_below : (rate : Sum) (parts : List Sum) (segment : Sum) (segments : List Sum) → HaveSizes parts → JoinsEqualRates parts (segment ∷ segments)
    → ((part : Sum) (rest : List Sum) → parts ≡ part ∷ rest → Below part rate) → Below segment rate
segment_below rate parts segment segments some joins lower = by_groups joins.groups joins.all joins.sums joins.filled joins.equal
  where
    by_groups : (groups : List (List Sum)) → parts ≡ flat groups → segment ∷ segments ≡ map sum_of groups
        → ((group : List Sum) → Contains groups group → group ≢ [])
        → ((group : List Sum) (a b : Sum) → Contains groups group → Contains group a → Contains group b → Same a b) → Below segment rate
    by_groups [] all sums filled equal = absurd (not_empty sums)
    by_groups ([] ∷ gs) all sums filled equal = absurd (filled [] (Contains-head [] gs) refl)
    by_groups ((y ∷ g) ∷ gs) all sums filled equal =
        let member : HaveSizes (y ∷ g) = λ part h. some part (subst (λ zs. Contains zs part) (sym all) (Contains-append_left (y ∷ g) (flat gs) part h)) in
        let low : AtMost (sum_of (y ∷ g)) y =
        sum_at_most_rate y (y ∷ g) (λ part h. same_at_most part y (equal (y ∷ g) part y (Contains-head (y ∷ g) gs) h (Contains-head y g))) in
        let less : Below (sum_of (y ∷ g)) rate =
        at_most_below (sum_of (y ∷ g)) y rate (group_some (y ∷ g) not_empty member) (member y (Contains-head y g)) low (lower y (g ++ flat gs) all) in
        subst (λ z. Below z rate) (sym (first_of sums)) less

pub joins_first_segment : (first : Sum) (group after segments : List Sum) → HaveSizes (first ∷ group ++ after) → Falls (first ∷ group ++ after)
    → ((part : Sum) → Contains group part → AtMost first part) → ((part : Sum) (rest : List Sum) → after ≡ part ∷ rest → Below part first)
    → JoinsEqualRates (first ∷ group ++ after) segments → (others : List Sum) × (segments ≡ sum_of (first ∷ group) ∷ others) × JoinsEqualRates after others
joins_first_segment first group after segments some falls same lower joins =
    let somes : HaveSizes after = λ part h. some part (Contains-append_right (first ∷ group) after part h) in
    let found = joins_some after somes (falls-after (first ∷ group) after falls) in
    let rest = found.1 in
    let some_first : 1 ≤ first.size = some first (Contains-head first (group ++ after)) in
    let to_first : (part : Sum) → Contains (first ∷ group) part → Same part first = λ part h. elim (Contains-cases first part group h) [
      | inl it ↦ subst (λ z. Same z first) it (same_all first first refl)
      | inr later ↦
          same_both part first
          (falls_after first (group ++ after) falls (λ b k. some b (Contains-later first b (group ++ after) k)) part
          (Contains-append_left group after part later))
          (same part later)
    ] in
    let up : AtMost first (sum_of (first ∷ group)) =
    at_most_sum first (first ∷ group) (λ part h. same_at_most first part (same_back part first (to_first part h))) in
    let size : 1 ≤ (sum_of (first ∷ group)).size = omega (arith, size_of-cons first group) in
    let whole : JoinsEqualRates (first ∷ group ++ after) (sum_of (first ∷ group) ∷ found.0) = record {
      groups = (first ∷ group) ∷ rest.groups;
      all = ap (λ zs. first ∷ group ++ zs) rest.all;
      sums = ap (λ zs. sum_of (first ∷ group) ∷ zs) rest.sums;
      filled = λ g h.
          elim (Contains-cases (first ∷ group) g rest.groups h) [ inl it ↦ subst (λ (zs : List Sum). zs ≢ []) it not_empty | inr later ↦ rest.filled g later ];
      equal = λ g a b h here there. elim (Contains-cases (first ∷ group) g rest.groups h) [
        | inl it ↦
            same_chains a first b some_first (to_first a (subst (λ zs. Contains zs a) (sym it) here))
            (same_back b first (to_first b (subst (λ zs. Contains zs b) (sym it) there)))
        | inr later ↦ rest.equal g a b later here there
      ];
      falling = falling found.0 rest some_first size somes up;
    } in
    (found.0, joins_one (first ∷ group ++ after) segments (sum_of (first ∷ group) ∷ found.0) some joins whole, rest)
  where
    falling : (others : List Sum) → JoinsEqualRates after others → 1 ≤ first.size
        → 1 ≤ (sum_of (first ∷ group)).size → HaveSizes after → AtMost first (sum_of (first ∷ group))
        → FallsStrictly (sum_of (first ∷ group) ∷ others)
    falling [] rest some_first size somes up = tt
    falling (s ∷ others) rest some_first size somes up =
        (below_at_most_chains s first (sum_of (first ∷ group)) some_first size (segment_below first after s others somes rest lower) up, rest.falling)

-- ---- verdicts
pub one_verdict : (a b : List (ℕ × ℤ)) (v w : Verdict) → Compares a b v → Compares a b w → v ≡ w
one_verdict a b Better Better one other = refl
one_verdict a b Better Worse one other = absurd (other.0 one.0)
one_verdict a b Better Equal one other = absurd (one.1 other.1)
one_verdict a b Better Incomparable one other = absurd (other.0 one.0)
one_verdict a b Worse Better one other = absurd (one.0 other.0)
one_verdict a b Worse Worse one other = refl
one_verdict a b Worse Equal one other = absurd (one.0 other.0)
one_verdict a b Worse Incomparable one other = absurd (other.1 one.1)
one_verdict a b Equal Better one other = absurd (other.1 one.1)
one_verdict a b Equal Worse one other = absurd (other.0 one.0)
one_verdict a b Equal Equal one other = refl
one_verdict a b Equal Incomparable one other = absurd (other.0 one.0)
one_verdict a b Incomparable Better one other = absurd (one.0 other.0)
one_verdict a b Incomparable Worse one other = absurd (one.1 other.1)
one_verdict a b Incomparable Equal one other = absurd (one.0 other.0)
one_verdict a b Incomparable Incomparable one other = refl
