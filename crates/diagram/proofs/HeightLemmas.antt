-- Heights are straight between corners, so it is enough to compare them at corners.
use Rattle.std.proofs.Common.{◌≡◌, ℕ, ◌-◌, ◌<◌, ◌≤◌, List, [], ◌∷◌, ℤ, ◌+ℤ◌, ◌-ℤ◌, ◌*ℤ◌, ◌≤ℤ◌, ◌<ℤ◌, refl, sym, ap, ◌∙◌, subst, inl, inr, arith}
use Rattle.std.specs.Prelude.{pos}
use Rattle.std.proofs.lemmas.Bool.{cases_lt}
use Rattle.std.proofs.lemmas.Int.{ints, by_lt_z}
use Rattle.graphs.proofs.HeightLemmas.{height_early, height_late}
use Rattle.fee_rate.proofs.Orders.{same_back, same_chains, same_sum}
use Rattle.arithmetic.proofs.Products.{mul-add_left, mul-add_right, mul-sub_left, mul-sub_right, mul_swap_ℤ, scale_keeps}
use Rattle.fee_rate.specs.declared.rates.Sum.{Sum}
use Rattle.std.proofs.lemmas.Cmp.{int_ranked}
use Rattle.std.specs.Ordering.{MatchOrdering, int_cmp}
use Rattle.std.specs.declared.cmp.Ordering.{Ordering}
use Rattle.std.specs.declared.cmp.Ordering.TheVariants.{Less, Equal, Greater}
use Rattle.fee_rate.specs.Rates.{AtMost, Same, ComparesRates}
use Rattle.graphs.specs.Diagrams.{height_between, height_at}
use Rattle.diagram.specs.Points.{Rises}

-- ---- lines
-- a line that isn't above another at two sizes isn't above it between them
line_between : (a s b t : ℤ) (x y z : ℕ) → x ≤ y → y ≤ z → (a +ℤ (s *ℤ pos x)) ≤ℤ (b +ℤ (t *ℤ pos x))
    → (a +ℤ (s *ℤ pos z)) ≤ℤ (b +ℤ (t *ℤ pos z)) → (a +ℤ (s *ℤ pos y)) ≤ℤ (b +ℤ (t *ℤ pos y))
line_between a s b t x y z from to low high = by_lt_z s t
    (λ less.
    let n : ℕ = y - x in
    let e : pos y ≡ pos x +ℤ pos n = omega (arith, ints) in
    let steeper : (s *ℤ pos n) ≤ℤ (t *ℤ pos n) = scale_keeps n s t (omega (arith, ints, less)) in
    let left : s *ℤ pos y ≡ (s *ℤ pos x) +ℤ (s *ℤ pos n) = ap (λ (k : ℤ). s *ℤ k) e ∙ mul-add_right s (pos x) (pos n) in
    let right : t *ℤ pos y ≡ (t *ℤ pos x) +ℤ (t *ℤ pos n) = ap (λ (k : ℤ). t *ℤ k) e ∙ mul-add_right t (pos x) (pos n) in
    omega (arith, ints, low, steeper, left, right))
    (λ most.
    let n : ℕ = z - y in
    let e : pos z ≡ pos y +ℤ pos n = omega (arith, ints) in
    let flatter : (t *ℤ pos n) ≤ℤ (s *ℤ pos n) = scale_keeps n t s most in
    let left : s *ℤ pos z ≡ (s *ℤ pos y) +ℤ (s *ℤ pos n) = ap (λ (k : ℤ). s *ℤ k) e ∙ mul-add_right s (pos y) (pos n) in
    let right : t *ℤ pos z ≡ (t *ℤ pos y) +ℤ (t *ℤ pos n) = ap (λ (k : ℤ). t *ℤ k) e ∙ mul-add_right t (pos y) (pos n) in
    omega (arith, ints, high, flatter, left, right))

-- the same of heights over widths
abbrev on_line : ℤ → ℤ → ℕ → ℕ → Sum
on_line base slope width x = record { fee = base +ℤ (slope *ℤ pos x); size = width }

crossed_line : (base slope : ℤ) (x w : ℕ) → (base +ℤ (slope *ℤ pos x)) *ℤ pos w ≡ (base *ℤ pos w) +ℤ ((slope *ℤ pos w) *ℤ pos x)
crossed_line base slope x w = mul-add_left base (slope *ℤ pos x) (pos w) ∙ ap (λ (k : ℤ). (base *ℤ pos w) +ℤ k) (mul_swap_ℤ slope (pos x) (pos w))

rate_between : (a s b t : ℤ) (v w x y z : ℕ) → x ≤ y → y ≤ z → AtMost (on_line a s v x) (on_line b t w x)
    → AtMost (on_line a s v z) (on_line b t w z) → AtMost (on_line a s v y) (on_line b t w y)
rate_between a s b t v w x y z from to low high =
    let mid = line_between (a *ℤ pos w) (s *ℤ pos w) (b *ℤ pos v) (t *ℤ pos v) x y z from to
    (omega (arith, ints, low.crossed, crossed_line a s x w, crossed_line b t x v))
    (omega (arith, ints, high.crossed, crossed_line a s z w, crossed_line b t z v)) in
    record { crossed = omega (arith, ints, mid, crossed_line a s y w, crossed_line b t y v) }

-- a list's height is one line up to a size
pub record IsStraight (points : List (ℕ × ℤ)) (to : ℕ) : Type 0 where
  pub base : ℤ
  pub slope : ℤ
  pub width : ℕ
  pub line : (x : ℕ) → x ≤ to → height_at points x ≡ on_line base slope width x

pub straight_between : (us ls : List (ℕ × ℤ)) (x y z : ℕ) → IsStraight us z → IsStraight ls z → x ≤ y → y ≤ z
    → AtMost (height_at ls x) (height_at us x) → AtMost (height_at ls z) (height_at us z) → AtMost (height_at ls y) (height_at us y)
straight_between us ls x y z upper lower from to low high =
    let at : (k : ℕ) → k ≤ z → AtMost (height_at ls k) (height_at us k)
    → AtMost (on_line lower.base lower.slope lower.width k) (on_line upper.base upper.slope upper.width k) =
    λ k h most.
    subst (λ s. AtMost s (on_line upper.base upper.slope upper.width k)) (lower.line k h) (subst (λ s. AtMost (height_at ls k) s) (upper.line k h) most) in
    let mid =
    rate_between lower.base lower.slope upper.base upper.slope lower.width upper.width x y z from to (at x (omega arith) low) (at z (omega arith) high) in
    subst (λ s. AtMost s (height_at us y)) (sym (lower.line y to))
    (subst (λ s. AtMost (on_line lower.base lower.slope lower.width y) s) (sym (upper.line y to)) mid)

same_fee : (f g : ℤ) (n : ℕ) → f ≡ g → ◌≡◌ {A = Sum} (record { fee = f; size = n }) (record { fee = g; size = n })
same_fee f g n e = same_sum _ _ e refl

pub straight_first : (p q : ℕ × ℤ) (rest : List (ℕ × ℤ)) (to : ℕ) → to ≤ q.0 → IsStraight (p ∷ q ∷ rest) to
straight_first p q rest to h =
    let slope : ℤ = q.1 -ℤ p.1 in
    let base : ℤ = (p.1 *ℤ pos (q.0 - p.0)) -ℤ (slope *ℤ pos p.0) in
    record {
      base = base;
      slope = slope;
      width = q.0 - p.0;
      line = λ x k. height_early p q rest x (omega arith)
          ∙ same_fee ((p.1 *ℤ pos (q.0 - p.0)) +ℤ (slope *ℤ (pos x -ℤ pos p.0))) (base +ℤ (slope *ℤ pos x))
          (q.0 - p.0) (omega (arith, ints, mul-sub_right slope (pos x) (pos p.0)));
    }

pub straight_last : (p : ℕ × ℤ) (to : ℕ) → IsStraight (p ∷ []) to
straight_last p to = record { base = p.1; slope = pos 0; width = 1; line = λ x h. same_fee p.1 (p.1 +ℤ (pos 0 *ℤ pos x)) 1 (omega (arith, ints)) }

-- ---- sizes of heights
pub height_some : (points : List (ℕ × ℤ)) → Rises points → (x : ℕ) → 1 ≤ (height_at points x).size
height_some [] rising x = omega arith
height_some (p ∷ []) rising x = omega arith
height_some (p ∷ q ∷ rest) rising x = elim (cases_lt q.0 x) [
  | inl late ↦ subst (λ (s : Sum). 1 ≤ s.size) (sym (height_late p q rest x late)) (height_some (q ∷ rest) rising.1 x)
  | inr early ↦ subst (λ (s : Sum). 1 ≤ s.size) (sym (height_early p q rest x early)) (omega (arith, rising.0))
]

-- ---- heights at corners

-- a fee alone, as a height
abbrev pub fee_of : ℕ × ℤ → Sum
fee_of point = record { fee = point.1; size = 1 }

line_end : (p q : ℕ × ℤ) → p.0 < q.0 → Same (height_between p q q.0) (fee_of q)
line_end p q less =
    let w : ℕ = q.0 - p.0 in
    let e : pos q.0 -ℤ pos p.0 ≡ pos w = omega (arith, ints) in
    let right : (q.1 -ℤ p.1) *ℤ (pos q.0 -ℤ pos p.0) ≡ (q.1 *ℤ pos w) -ℤ (p.1 *ℤ pos w) = ap (λ (k : ℤ). (q.1 -ℤ p.1) *ℤ k) e ∙ mul-sub_left q.1 p.1 (pos w) in
    record { crossed = omega (arith, ints, right) }

line_start : (p q : ℕ × ℤ) → Same (height_between p q p.0) (fee_of p)
line_start p q =
    let e : pos p.0 -ℤ pos p.0 ≡ pos 0 = omega (arith, ints) in
    let right : (q.1 -ℤ p.1) *ℤ (pos p.0 -ℤ pos p.0) ≡ (q.1 -ℤ p.1) *ℤ pos 0 = ap (λ (k : ℤ). (q.1 -ℤ p.1) *ℤ k) e in
    record { crossed = omega (arith, ints, right) }

pub corner_height : (p : ℕ × ℤ) (rest : List (ℕ × ℤ)) → Rises (p ∷ rest) → Same (height_at (p ∷ rest) p.0) (fee_of p)
corner_height p [] rising = record { crossed = refl }
corner_height p (q ∷ rest) rising = subst (λ s. Same s (fee_of p)) (sym (height_early p q rest p.0 (omega (arith, rising.0)))) (line_start p q)

-- from the next corner on the heights are those without the first
pub height_next : (p q : ℕ × ℤ) (rest : List (ℕ × ℤ)) → Rises (p ∷ q ∷ rest) → (x : ℕ) → q.0 ≤ x → Same (height_at (p ∷ q ∷ rest) x) (height_at (q ∷ rest) x)
height_next p q rest rising x h = elim (cases_lt q.0 x) [
  | inl late ↦ subst (λ s. Same s (height_at (q ∷ rest) x)) (sym (height_late p q rest x late)) (record { crossed = refl })
  | inr early ↦
      let same : x ≡ q.0 = omega arith in
      subst (λ (k : ℕ). Same (height_at (p ∷ q ∷ rest) k) (height_at (q ∷ rest) k)) (sym same)
      (subst (λ s. Same s (height_at (q ∷ rest) q.0)) (sym (height_early p q rest q.0 (omega arith)))
      (same_chains (height_between p q q.0) (fee_of q) (height_at (q ∷ rest) q.0) (omega arith)
      (line_end p q rising.0) (same_back (height_at (q ∷ rest) q.0) (fee_of q) (corner_height q rest rising.1))))
]

-- ---- a point against a line
-- the crossed products, of a point's rise from a line's start with the line's width, and of the line's rise with the size gone
ranked_line : (p q point : ℕ × ℤ) (o : Ordering) → p.0 ≤ q.0 → p.0 ≤ point.0
    → MatchOrdering o (((point.1 -ℤ p.1) *ℤ pos (q.0 - p.0)) <ℤ ((q.1 -ℤ p.1) *ℤ pos (point.0 - p.0)))
    ((point.1 -ℤ p.1) *ℤ pos (q.0 - p.0) ≡ (q.1 -ℤ p.1) *ℤ pos (point.0 - p.0))
    (((q.1 -ℤ p.1) *ℤ pos (point.0 - p.0)) <ℤ ((point.1 -ℤ p.1) *ℤ pos (q.0 - p.0)))
    → ComparesRates (fee_of point) (height_between p q point.0) o
ranked_line p q point Less wide gone h =
    let e : pos point.0 -ℤ pos p.0 ≡ pos (point.0 - p.0) = omega (arith, ints) in
    let right : (q.1 -ℤ p.1) *ℤ (pos point.0 -ℤ pos p.0) ≡ (q.1 -ℤ p.1) *ℤ pos (point.0 - p.0) = ap (λ (k : ℤ). (q.1 -ℤ p.1) *ℤ k) e in
    record { crossed = omega (arith, ints, h, right, mul-sub_left point.1 p.1 (pos (q.0 - p.0))) }
ranked_line p q point Equal wide gone h =
    let e : pos point.0 -ℤ pos p.0 ≡ pos (point.0 - p.0) = omega (arith, ints) in
    let right : (q.1 -ℤ p.1) *ℤ (pos point.0 -ℤ pos p.0) ≡ (q.1 -ℤ p.1) *ℤ pos (point.0 - p.0) = ap (λ (k : ℤ). (q.1 -ℤ p.1) *ℤ k) e in
    record { crossed = omega (arith, ints, h, right, mul-sub_left point.1 p.1 (pos (q.0 - p.0))) }
ranked_line p q point Greater wide gone h =
    let e : pos point.0 -ℤ pos p.0 ≡ pos (point.0 - p.0) = omega (arith, ints) in
    let right : (q.1 -ℤ p.1) *ℤ (pos point.0 -ℤ pos p.0) ≡ (q.1 -ℤ p.1) *ℤ pos (point.0 - p.0) = ap (λ (k : ℤ). (q.1 -ℤ p.1) *ℤ k) e in
    record { crossed = omega (arith, ints, h, right, mul-sub_left point.1 p.1 (pos (q.0 - p.0))) }

pub compares_line : (p q point : ℕ × ℤ) (risen rise : ℤ) (o : Ordering) → p.0 ≤ q.0 → p.0 ≤ point.0
    → risen ≡ (point.1 -ℤ p.1) *ℤ pos (q.0 - p.0) → rise ≡ (q.1 -ℤ p.1) *ℤ pos (point.0 - p.0)
    → o ≡ int_cmp risen rise → ComparesRates (fee_of point) (height_between p q point.0) o
compares_line p q point risen rise o wide gone one other e =
    ranked_line p q point o wide gone
    (int_ranked ((point.1 -ℤ p.1) *ℤ pos (q.0 - p.0)) ((q.1 -ℤ p.1) *ℤ pos (point.0 - p.0)) o (e ∙ (λ i. int_cmp (one i) (other i))))
