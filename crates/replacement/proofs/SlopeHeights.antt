-- Diagrams told by slopes: over a scale that each part's size divides, the height at a size is the sum of as many slopes as the size has units.
use Rattle.std.proofs.Common.{◌≡◌, ◌≢◌, ℕ, zero, suc, ◌+◌, ◌-◌, ◌*◌, ◌/◌, ◌<◌, ◌≤◌, ◌↔◌, List, [], ◌∷◌, ◌++◌, map, replicate, inl, inr, ℤ, pos, ◌+ℤ◌, ◌-ℤ◌, ◌*ℤ◌, ◌≤ℤ◌, refl, sym, ap, ◌∙◌, subst, arith}
use Rattle.std.specs.Prelude.{Contains, flat_map, sum_by}
use Rattle.std.proofs.Math.Nat.{mul-div_cancel}
use Rattle.std.proofs.lemmas.Bool.{cases_lt}
use Rattle.std.proofs.lemmas.Int.{ints}
use Rattle.std.proofs.lemmas.Nat.{mul-le}
use Rattle.std.proofs.lemmas.List.{replicate-append-replicate}
use Rattle.std.proofs.lemmas.List.Concat.{flat_map-append}
use Rattle.std.proofs.lemmas.List.Elements.{Contains-append_left, Contains-append_right}
use Rattle.std.proofs.lemmas.List.Folds.{sum_by-replicate}
use Rattle.std.proofs.lemmas.List.Sums.{sum_by-cons, sum_by-append}
use Rattle.lists.proofs.Entries.{Contains-head, Contains-later, Contains-cases, none_in_empty}
use Rattle.arithmetic.proofs.Products.{mul-add_left, mul-add_right, mul_assoc_ℤ, mul_swap_ℤ, scale_keeps, scale_reflects}
use Rattle.fee_rate.proofs.Orders.{at_most_chains, below_at_most, same_at_most, same_back, same_sum}
use Rattle.fee_rate.specs.declared.rates.Sum.{Sum}
use Rattle.fee_rate.specs.Laws.{joined}
use Rattle.fee_rate.specs.Rates.{AtMost, Same}
use Rattle.graphs.specs.Rates.{sum_of}
use Rattle.graphs.specs.Diagrams.{corners_of, ends_from, height_at, height_between, FallsStrictly, IsAtOrAbove, JoinsEqualRates}
use Rattle.graphs.proofs.CornerLemmas.{flat, size_of-cons}
use Rattle.graphs.proofs.HeightLemmas.{height_early, height_late}
use Rattle.replacement.proofs.SlopeLists.{rise, rise_none, AreBelow, AreFalling, Descends, descends_more}

-- ---- slopes
-- a part's rate times a scale is a whole number
abbrev pub HasSlope : ℕ → Sum → ℤ → Type 0
HasSlope scale part slope = part.fee *ℤ pos scale ≡ slope *ℤ pos part.size

-- the slopes of parts, once for each unit of size
abbrev pub AreSlopes : ℕ → List Sum → List ℤ → Type 0
AreSlopes scale [] slopes = slopes ≡ []
AreSlopes scale (part ∷ parts) slopes =
    (slope : ℤ) × (behind : List ℤ) × (slopes ≡ replicate part.size slope ++ behind) × (1 ≤ part.size) × HasSlope scale part slope
    × AreSlopes scale parts behind

-- the same, where a function tells each part's
abbrev pub slopes_of : (Sum → ℤ) → List Sum → List ℤ
slopes_of slope parts = flat_map (λ part. replicate part.size (slope part)) parts

abbrev pub HaveSlopes : ℕ → (Sum → ℤ) → List Sum → Type 0
HaveSlopes scale slope parts = (part : Sum) → Contains parts part → (1 ≤ part.size) × HasSlope scale part (slope part)

-- a lower rate has a lower slope
pub slope_most : (scale : ℕ) (a b : Sum) (m n : ℤ) → 1 ≤ a.size → 1 ≤ b.size → HasSlope scale a m → HasSlope scale b n → AtMost a b → m ≤ℤ n
slope_most scale a b m n some_a some_b one other low =
    let scaled = scale_keeps scale (a.fee *ℤ pos b.size) (b.fee *ℤ pos a.size) low.crossed in
    let left = mul_swap_ℤ a.fee (pos b.size) (pos scale) ∙ ap (λ (z : ℤ). z *ℤ pos b.size) one in
    let right = mul_swap_ℤ b.fee (pos a.size) (pos scale) ∙ ap (λ (z : ℤ). z *ℤ pos a.size) other ∙ mul_swap_ℤ n (pos b.size) (pos a.size) in
    scale_reflects a.size m n (omega arith)
    (scale_reflects b.size (m *ℤ pos a.size) (n *ℤ pos a.size) (omega arith) (omega (arith, ints, scaled, left, right)))

-- a part whose fee is at least 0 has such a slope
pub slope_pays : (scale : ℕ) (part : Sum) (m : ℤ) → 1 ≤ part.size → HasSlope scale part m → pos 0 ≤ℤ part.fee → pos 0 ≤ℤ m
slope_pays scale part m some has pays =
    let scaled = scale_keeps scale (pos 0) part.fee pays in
    scale_reflects part.size (pos 0) m (omega arith) (omega (arith, ints, scaled, has))

-- ---- sums of the first slopes
rise_run : (n k : ℕ) (m : ℤ) (behind : List ℤ) → k ≤ n → rise k (replicate n m ++ behind) ≡ m *ℤ pos k
rise_run n zero m behind within = omega (arith, ints)
rise_run zero (suc k) m behind within = absurd (omega (arith, within))
rise_run (suc n) (suc k) m behind within =
    let rest = rise_run n k m behind (omega (arith, within)) in
    let split : pos (suc k) ≡ pos 1 +ℤ pos k = omega (arith, ints) in
    let more : m *ℤ pos (suc k) ≡ (m *ℤ pos 1) +ℤ (m *ℤ pos k) = ap (λ (z : ℤ). m *ℤ z) split ∙ mul-add_right m (pos 1) (pos k) in
    omega (arith, ints, rest, more)

rise_past : (n x k : ℕ) (m : ℤ) (behind : List ℤ) → x ≡ n + k → rise x (replicate n m ++ behind) ≡ (m *ℤ pos n) +ℤ rise k behind
rise_past zero x k m behind e =
    let same : x ≡ k = omega (arith, e) in
    omega (arith, ints, ap (λ (y : ℕ). rise y behind) same)
rise_past (suc n) zero k m behind e = absurd (omega (arith, e))
rise_past (suc n) (suc x) k m behind e =
    let rest = rise_past n x k m behind (omega (arith, e)) in
    let split : pos (suc n) ≡ pos 1 +ℤ pos n = omega (arith, ints) in
    let more : m *ℤ pos (suc n) ≡ (m *ℤ pos 1) +ℤ (m *ℤ pos n) = ap (λ (z : ℤ). m *ℤ z) split ∙ mul-add_right m (pos 1) (pos n) in
    omega (arith, ints, rest, more)

-- ---- heights
-- the corners of segments from an origin on
abbrev points : Sum → List Sum → List (ℕ × ℤ)
points origin parts = (origin.size, origin.fee) ∷ ends_from origin parts

-- the height on a segment, so far behind its origin
abbrev on_segment : Sum → Sum → ℕ → Sum
on_segment origin part gone = record { fee = (origin.fee *ℤ pos part.size) +ℤ (part.fee *ℤ pos gone); size = part.size }

height_on : (origin part : Sum) (rest : List Sum) (x : ℕ) → origin.size ≤ x → x ≤ origin.size + part.size
    → height_at (points origin (part ∷ rest)) x ≡ on_segment origin part (x - origin.size)
height_on origin part rest x from to =
    let end : Sum = joined origin part in
    let width : (origin.size + part.size) - origin.size ≡ part.size = omega arith in
    let rise : (origin.fee +ℤ part.fee) -ℤ origin.fee ≡ part.fee = omega (arith, ints) in
    let gone : pos x -ℤ pos origin.size ≡ pos (x - origin.size) = omega (arith, ints) in
    let start = ap (λ (n : ℕ). origin.fee *ℤ pos n) width in
    let risen = ap (λ (z : ℤ). z *ℤ (pos x -ℤ pos origin.size)) rise ∙ ap (λ (z : ℤ). part.fee *ℤ z) gone in
    height_early (origin.size, origin.fee) (end.size, end.fee) (ends_from end rest) x to
    ∙ same_sum (height_between (origin.size, origin.fee) (end.size, end.fee) x) (on_segment origin part (x - origin.size))
    (omega (arith, ints, start, risen)) width

height_past : (origin part : Sum) (rest : List Sum) (x : ℕ) → origin.size + part.size < x
    → height_at (points origin (part ∷ rest)) x ≡ height_at (points (joined origin part) rest) x
height_past origin part rest x late =
    let end : Sum = joined origin part in
    height_late (origin.size, origin.fee) (end.size, end.fee) (ends_from end rest) x late

height_some : (scale : ℕ) (origin : Sum) (parts : List Sum) (slopes : List ℤ) (x : ℕ) → AreSlopes scale parts slopes → origin.size ≤ x
    → 1 ≤ (height_at (points origin parts) x).size
height_some scale origin [] slopes x are from = omega arith
height_some scale origin (s ∷ rest) slopes x are from = elim (cases_lt (origin.size + s.size) x) [
  | inl late ↦
      subst (λ (h : Sum). 1 ≤ h.size) (sym (height_past origin s rest x late))
      (height_some scale (joined origin s) rest are.1 x are.5 (omega arith))
  | inr early ↦ subst (λ (h : Sum). 1 ≤ h.size) (sym (height_on origin s rest x from early)) are.3
]

-- a height over the scale: an origin's fee, and the first slopes
abbrev risen : ℕ → Sum → ℕ → List ℤ → Sum
risen scale origin gone slopes = record { fee = (origin.fee *ℤ pos scale) +ℤ rise gone slopes; size = scale }

on_slope : (scale : ℕ) (origin part : Sum) (gone : ℕ) (slopes : List ℤ) (slope : ℤ) → HasSlope scale part slope → rise gone slopes ≡ slope *ℤ pos gone
    → Same (on_segment origin part gone) (risen scale origin gone slopes)
on_slope scale origin part gone slopes slope has run =
    let left = mul-add_left (origin.fee *ℤ pos part.size) (part.fee *ℤ pos gone) (pos scale) in
    let start = mul_swap_ℤ origin.fee (pos part.size) (pos scale) in
    let scaled = mul_swap_ℤ part.fee (pos gone) (pos scale) ∙ ap (λ (z : ℤ). z *ℤ pos gone) has ∙ mul_swap_ℤ slope (pos part.size) (pos gone) in
    let right = mul-add_left (origin.fee *ℤ pos scale) (rise gone slopes) (pos part.size) in
    let more = ap (λ (z : ℤ). z *ℤ pos part.size) run in
    record { crossed = omega (arith, ints, left, start, scaled, right, more) }

height_risen : (scale : ℕ) (origin : Sum) (parts : List Sum) (slopes : List ℤ) (x : ℕ) → AreSlopes scale parts slopes → origin.size ≤ x
    → Same (height_at (points origin parts) x) (risen scale origin (x - origin.size) slopes)
height_risen scale origin [] slopes x are from =
    let none = ap (rise (x - origin.size)) are ∙ rise_none (x - origin.size) in
    record { crossed = omega (arith, ints, none) }
height_risen scale origin (s ∷ rest) slopes x are from = elim (cases_lt (origin.size + s.size) x) [
  | inl late ↦
      let behind = height_risen scale (joined origin s) rest are.1 x are.5 (omega arith) in
      let whole = ap (rise (x - origin.size)) are.2 ∙ rise_past s.size (x - origin.size) (x - (origin.size + s.size)) are.0 are.1 (omega (arith, late)) in
      let fees = mul-add_left origin.fee s.fee (pos scale) in
      let moved : risen scale (joined origin s) (x - (origin.size + s.size)) are.1 ≡ risen scale origin (x - origin.size) slopes =
      same_sum (risen scale (joined origin s) (x - (origin.size + s.size)) are.1) (risen scale origin (x - origin.size) slopes)
      (omega (arith, ints, fees, are.4, whole)) refl in
      subst (λ (h : Sum). Same h (risen scale origin (x - origin.size) slopes)) (sym (height_past origin s rest x late))
      (subst (λ (h : Sum). Same (height_at (points (joined origin s) rest) x) h) moved behind)
  | inr early ↦
      subst (λ (h : Sum). Same h (risen scale origin (x - origin.size) slopes)) (sym (height_on origin s rest x from early))
      (on_slope scale origin s (x - origin.size) slopes are.0 are.4
      (ap (rise (x - origin.size)) are.2 ∙ rise_run s.size (x - origin.size) are.0 are.1 (omega (arith, early))))
]

-- the sum of the first slopes, over the scale
abbrev over : ℕ → ℕ → List ℤ → Sum
over scale x slopes = record { fee = rise x slopes; size = scale }

-- ---- falling segments
run_descends : (n : ℕ) (m : ℤ) (behind : List ℤ) → Descends m behind → Descends m (replicate n m ++ behind)
run_descends zero m behind falls = falls
run_descends (suc n) m behind falls = (omega (arith, ints), run_descends n m behind falls)

falls_under : (scale : ℕ) (part : Sum) (parts : List Sum) (slopes : List ℤ) → FallsStrictly (part ∷ parts) → (are : AreSlopes scale (part ∷ parts) slopes)
    → Descends are.0 slopes
falls_under scale part [] slopes falls are =
    subst (Descends are.0) (sym are.2) (run_descends part.size are.0 are.1 (subst (Descends are.0) (sym are.5) tt))
falls_under scale part (q ∷ rest) slopes falls are =
    let behind = are.5 in
    let low = slope_most scale q part behind.0 are.0 behind.3 are.3 behind.4 are.4 (below_at_most q part falls.0) in
    subst (Descends are.0) (sym are.2)
    (run_descends part.size are.0 are.1 (descends_more behind.0 are.0 are.1 low (falls_under scale q rest are.1 falls.1 behind)))

slopes_fall : (scale : ℕ) (parts : List Sum) (slopes : List ℤ) → FallsStrictly parts → AreSlopes scale parts slopes → AreFalling slopes
slopes_fall scale [] slopes falls are = (pos 0, subst (Descends (pos 0)) (sym are) tt)
slopes_fall scale (s ∷ rest) slopes falls are = (are.0, falls_under scale s rest slopes falls are)

-- ---- parts joined at equal rates
module _ (scale : ℕ) (slope : Sum → ℤ) where
  slopes_same : (a b : Sum) → (1 ≤ a.size) × HasSlope scale a (slope a) → (1 ≤ b.size) × HasSlope scale b (slope b) → Same a b → slope a ≡ slope b
  slopes_same a b one other same =
      let up = slope_most scale a b (slope a) (slope b) one.0 other.0 one.1 other.1 (same_at_most a b same) in
      let down = slope_most scale b a (slope b) (slope a) other.0 one.0 other.1 one.1 (same_at_most b a (same_back a b same)) in
      omega (arith, ints, up, down)

  group_run : (m : ℤ) (group : List Sum) → HaveSlopes scale slope group → ((part : Sum) → Contains group part → slope part ≡ m)
      → (slopes_of slope group ≡ replicate (sum_of group).size m) × HasSlope scale (sum_of group) m
  group_run m [] have same = (refl, omega (arith, ints))
  group_run m (x ∷ xs) have same =
      let rest = group_run m xs (λ part h. have part (Contains-later x part xs h)) (λ part h. same part (Contains-later x part xs h)) in
      let first : slope x ≡ m = same x (Contains-head x xs) in
      let size = size_of-cons x xs in
      let run : replicate x.size (slope x) ++ slopes_of slope xs ≡ replicate x.size m ++ replicate (sum_of xs).size m =
      λ i. replicate x.size (first i) ++ rest.0 i in
      let fees = mul-add_left x.fee (sum_of xs).fee (pos scale) in
      let here = (have x (Contains-head x xs)).1 ∙ ap (λ (z : ℤ). z *ℤ pos x.size) first in
      let split : pos (sum_of (x ∷ xs)).size ≡ pos x.size +ℤ pos (sum_of xs).size = omega (arith, ints, size) in
      let sizes = ap (λ (z : ℤ). m *ℤ z) split ∙ mul-add_right m (pos x.size) (pos (sum_of xs).size) in (
        run ∙ replicate-append-replicate x.size (sum_of xs).size m ∙ ap (λ (n : ℕ). replicate n m) (sym size),
        omega (arith, ints, fees, here, rest.1, sizes),
      )

  groups_slopes : (groups : List (List Sum)) → HaveSlopes scale slope (flat groups) → ((group : List Sum) → Contains groups group → group ≢ [])
      → ((group : List Sum) (a b : Sum) → Contains groups group → Contains group a → Contains group b → Same a b)
      → AreSlopes scale (map sum_of groups) (slopes_of slope (flat groups))
  groups_slopes [] have filled equal = refl
  groups_slopes ([] ∷ gs) have filled equal = absurd (filled [] (Contains-head [] gs) refl)
  groups_slopes ((x ∷ g) ∷ gs) have filled equal =
      let here : HaveSlopes scale slope (x ∷ g) = λ part h. have part (Contains-append_left (x ∷ g) (flat gs) part h) in
      let first : Contains (x ∷ g) x = Contains-head x g in
      let run = group_run (slope x) (x ∷ g) here
      (λ part h. slopes_same part x (here part h) (here x first) (equal (x ∷ g) part x (Contains-head (x ∷ g) gs) h first)) in (
        slope x,
        slopes_of slope (flat gs),
        flat_map-append (λ (part : Sum). replicate part.size (slope part)) (x ∷ g) (flat gs) ∙ ap (λ zs. zs ++ slopes_of slope (flat gs)) run.0,
        omega (arith, size_of-cons x g, (here x first).0),
        run.1,
        groups_slopes gs (λ part h. have part (Contains-append_right (x ∷ g) (flat gs) part h))
            (λ group h. filled group (Contains-later (x ∷ g) group gs h))
            (λ group a b h. equal group a b (Contains-later (x ∷ g) group gs h)),
      )

  -- the segments of parts have the parts' slopes
  segments_slopes : (parts segments : List Sum) → HaveSlopes scale slope parts → JoinsEqualRates parts segments
      → AreSlopes scale segments (slopes_of slope parts)
  segments_slopes parts segments have joins =
      subst (λ zs. AreSlopes scale segments (slopes_of slope zs)) (sym joins.all)
      (subst (λ zs. AreSlopes scale zs (slopes_of slope (flat joins.groups))) (sym joins.sums)
      (groups_slopes joins.groups (subst (HaveSlopes scale slope) joins.all have) joins.filled joins.equal))

  pub parts_fall : (parts segments : List Sum) → HaveSlopes scale slope parts → JoinsEqualRates parts segments → AreFalling (slopes_of slope parts)
  parts_fall parts segments have joins = slopes_fall scale segments (slopes_of slope parts) joins.falling (segments_slopes parts segments have joins)

  -- ---- one diagram is at or above another exactly where the sums of its slopes are
  -- a diagram's height is the sum of its first slopes, over the scale
  record IsTold (segments : List Sum) (slopes : List ℤ) (x : ℕ) : Type 0 where
    some : 1 ≤ (height_at (corners_of segments) x).size
    low : AtMost (height_at (corners_of segments) x) (over scale x slopes)
    high : AtMost (over scale x slopes) (height_at (corners_of segments) x)

  told : (parts segments : List Sum) (x : ℕ) → HaveSlopes scale slope parts → JoinsEqualRates parts segments → IsTold segments (slopes_of slope parts) x
  told parts segments x have joins =
      let origin : Sum = record { fee = pos 0; size = 0 } in
      let slopes = slopes_of slope parts in
      let are = segments_slopes parts segments have joins in
      let height : Sum = height_at (corners_of segments) x in
      let gone : x - 0 ≡ x = omega arith in
      let same : risen scale origin (x - 0) slopes ≡ over scale x slopes =
      same_sum (risen scale origin (x - 0) slopes) (over scale x slopes) (omega (arith, ints, ap (λ (k : ℕ). rise k slopes) gone)) refl in
      let is = subst (λ (h : Sum). Same height h) same (height_risen scale origin segments slopes x are (omega arith)) in
      record {
        some = height_some scale origin segments slopes x are (omega arith);
        low = same_at_most height (over scale x slopes) is;
        high = same_at_most (over scale x slopes) height (same_back height (over scale x slopes) is);
      }

  module _ (upper lower us ls : List Sum) (some : 1 ≤ scale) (have_upper : HaveSlopes scale slope upper) (have_lower : HaveSlopes scale slope lower)
      (joins_us : JoinsEqualRates upper us) (joins_ls : JoinsEqualRates lower ls) where
    sums_below : IsAtOrAbove (corners_of us) (corners_of ls) → AreBelow (slopes_of slope lower) (slopes_of slope upper)
    sums_below above x =
        let high = told upper us x have_upper joins_us in
        let low = told lower ls x have_lower joins_ls in
        let one : Sum = over scale x (slopes_of slope lower) in
        let other : Sum = over scale x (slopes_of slope upper) in
        let up = at_most_chains (height_at (corners_of ls) x) (height_at (corners_of us) x) other high.some (above x) high.low in
        scale_reflects scale one.fee other.fee (omega (arith, some)) (at_most_chains one (height_at (corners_of ls) x) other low.some low.high up).crossed

    heights_below : AreBelow (slopes_of slope lower) (slopes_of slope upper) → IsAtOrAbove (corners_of us) (corners_of ls)
    heights_below below x =
        let high = told upper us x have_upper joins_us in
        let low = told lower ls x have_lower joins_ls in
        let one : Sum = over scale x (slopes_of slope lower) in
        let other : Sum = over scale x (slopes_of slope upper) in
        let up : AtMost one other = record { crossed = scale_keeps scale one.fee other.fee (below x) } in
        at_most_chains (height_at (corners_of ls) x) other (height_at (corners_of us) x) some
        (at_most_chains (height_at (corners_of ls) x) one other some low.low up) high.high

    pub above_by_slopes : IsAtOrAbove (corners_of us) (corners_of ls) ↔ AreBelow (slopes_of slope lower) (slopes_of slope upper)
    above_by_slopes = (sums_below, heights_below)

  -- ---- sums over all slopes
  pub slopes_sum : (f : ℤ → ℕ) (parts : List Sum) → sum_by f (slopes_of slope parts) ≡ sum_by (λ part. part.size * f (slope part)) parts
  slopes_sum f [] = refl
  slopes_sum f (x ∷ xs) =
      omega (
        arith,
        sum_by-append f (replicate x.size (slope x)) (slopes_of slope xs),
        sum_by-replicate f x.size (slope x),
        slopes_sum f xs,
        sum_by-cons (λ (part : Sum). part.size * f (slope part)) x xs,
      )

-- ---- a scale for some parts
-- the product of all sizes
pub common_scale : List Sum → ℕ
common_scale [] = 1
common_scale (x ∷ xs) = x.size * common_scale xs

pub slope_over : ℕ → Sum → ℤ
slope_over scale part = part.fee *ℤ pos (scale / part.size)

pub scale_some : (parts : List Sum) → ((part : Sum) → Contains parts part → 1 ≤ part.size) → 1 ≤ common_scale parts
unfolding common_scale
scale_some [] some = omega arith
scale_some (x ∷ xs) some =
    let both = mul-le 1 1 x.size (common_scale xs) (some x (Contains-head x xs)) (scale_some xs (λ part h. some part (Contains-later x part xs h))) in
    omega (arith, both)

scale_divides : (parts : List Sum) (part : Sum) → Contains parts part → (k : ℕ) × (common_scale parts ≡ k * part.size)
unfolding common_scale
scale_divides [] part h = absurd (none_in_empty part h)
scale_divides (x ∷ xs) part h = elim (Contains-cases x part xs h) [
  | inl it ↦ (common_scale xs, omega (arith, ap (λ (s : Sum). s.size * common_scale xs) it))
  | inr later ↦
      let found = scale_divides xs part later in
      (x.size * found.0, omega (arith, ap (λ (n : ℕ). x.size * n) found.1))
]

pub have_slopes : (parts : List Sum) → ((part : Sum) → Contains parts part → 1 ≤ part.size)
    → HaveSlopes (common_scale parts) (slope_over (common_scale parts)) parts
unfolding slope_over
have_slopes parts some part h =
    let scale : ℕ = common_scale parts in
    let size : 1 ≤ part.size = some part h in
    let found = scale_divides parts part h in
    let whole : scale / part.size * part.size ≡ scale =
    ap (λ (n : ℕ). n / part.size * part.size) found.1 ∙ ap (λ (n : ℕ). n * part.size) (mul-div_cancel found.0 (omega (arith, size))) ∙ sym found.1 in
    (size, ap (λ (n : ℕ). part.fee *ℤ pos n) (sym whole) ∙ sym (mul_assoc_ℤ part.fee (pos (scale / part.size)) (pos part.size)))
