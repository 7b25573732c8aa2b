-- Rates compared by cross-multiplication: fee f over size s is at most fee g over size t where `f * t ≤ g * s`. Sizes are positive where a law asks for it.
use Rattle.std.proofs.Common.{ℕ, ◌+◌, ◌<◌, ◌⊎◌, inl, inr, ℤ, pos, ◌+ℤ◌, ◌*ℤ◌, ◌≤ℤ◌, ◌<ℤ◌, arith}
use Rattle.std.proofs.lemmas.Int.{ints, by_lt_z}
use Rattle.arithmetic.proofs.Products.{mul-add_left, mul-add_right, mul_swap_ℤ, scale_keeps, scale_keeps_strict, scale_reflects, scale_reflects_strict}

-- ---- an order, total

pub cross_total : (f g : ℤ) (s t : ℕ) → ((f *ℤ pos t) ≤ℤ (g *ℤ pos s)) ⊎ ((g *ℤ pos s) <ℤ (f *ℤ pos t))
cross_total f g s t = by_lt_z (g *ℤ pos s) (f *ℤ pos t) (λ less. inr less) (λ le. inl le)

pub cross_trans : (f g h : ℤ) (s t u : ℕ) → 0 < t → (f *ℤ pos t) ≤ℤ (g *ℤ pos s) → (g *ℤ pos u) ≤ℤ (h *ℤ pos t) → (f *ℤ pos u) ≤ℤ (h *ℤ pos s)
cross_trans f g h s t u positive below above =
    scale_reflects t _ _ positive
    (omega (
      arith,
      ints,
      scale_keeps u _ _ below,
      scale_keeps s _ _ above,
      mul_swap_ℤ f (pos t) (pos u),
      mul_swap_ℤ g (pos s) (pos u),
      mul_swap_ℤ h (pos t) (pos s),
    ))

pub cross_trans_strict_left : (f g h : ℤ) (s t u : ℕ) → 0 < t → 0 < u
    → (f *ℤ pos t) <ℤ (g *ℤ pos s) → (g *ℤ pos u) ≤ℤ (h *ℤ pos t) → (f *ℤ pos u) <ℤ (h *ℤ pos s)
cross_trans_strict_left f g h s t u positive other below above =
    scale_reflects_strict t _ _
    (omega (
      arith,
      ints,
      scale_keeps_strict u _ _ other below,
      scale_keeps s _ _ above,
      mul_swap_ℤ f (pos t) (pos u),
      mul_swap_ℤ g (pos s) (pos u),
      mul_swap_ℤ h (pos t) (pos s),
    ))

pub cross_trans_strict_right : (f g h : ℤ) (s t u : ℕ) → 0 < t → 0 < s
    → (f *ℤ pos t) ≤ℤ (g *ℤ pos s) → (g *ℤ pos u) <ℤ (h *ℤ pos t) → (f *ℤ pos u) <ℤ (h *ℤ pos s)
cross_trans_strict_right f g h s t u positive other below above =
    scale_reflects_strict t _ _
    (omega (
      arith,
      ints,
      scale_keeps u _ _ below,
      scale_keeps_strict s _ _ other above,
      mul_swap_ℤ f (pos t) (pos u),
      mul_swap_ℤ g (pos s) (pos u),
      mul_swap_ℤ h (pos t) (pos s),
    ))

-- ---- the sum of two rates, (f + g) over (s + t), lies between them
-- at least the lower
pub sum_above : (f g : ℤ) (s t : ℕ) → (f *ℤ pos t) ≤ℤ (g *ℤ pos s) → (f *ℤ pos (s + t)) ≤ℤ ((f +ℤ g) *ℤ pos s)
sum_above f g s t h = omega (arith, ints, mul-add_right f (pos s) (pos t), mul-add_left f g (pos s))

-- at most the higher
pub sum_below : (f g : ℤ) (s t : ℕ) → (f *ℤ pos t) ≤ℤ (g *ℤ pos s) → ((f +ℤ g) *ℤ pos t) ≤ℤ (g *ℤ pos (s + t))
sum_below f g s t h = omega (arith, ints, mul-add_right g (pos s) (pos t), mul-add_left f g (pos t))

pub sum_above_strict : (f g : ℤ) (s t : ℕ) → (f *ℤ pos t) <ℤ (g *ℤ pos s) → (f *ℤ pos (s + t)) <ℤ ((f +ℤ g) *ℤ pos s)
sum_above_strict f g s t h = omega (arith, ints, mul-add_right f (pos s) (pos t), mul-add_left f g (pos s))

pub sum_below_strict : (f g : ℤ) (s t : ℕ) → (f *ℤ pos t) <ℤ (g *ℤ pos s) → ((f +ℤ g) *ℤ pos t) <ℤ (g *ℤ pos (s + t))
sum_below_strict f g s t h = omega (arith, ints, mul-add_right g (pos s) (pos t), mul-add_left f g (pos t))

-- and the other way: what the sum's place says of its two terms
pub sum_above_back : (f g : ℤ) (s t : ℕ) → (f *ℤ pos (s + t)) ≤ℤ ((f +ℤ g) *ℤ pos s) → (f *ℤ pos t) ≤ℤ (g *ℤ pos s)
sum_above_back f g s t h = omega (arith, ints, mul-add_right f (pos s) (pos t), mul-add_left f g (pos s))

pub sum_above_back_strict : (f g : ℤ) (s t : ℕ) → (f *ℤ pos (s + t)) <ℤ ((f +ℤ g) *ℤ pos s) → (f *ℤ pos t) <ℤ (g *ℤ pos s)
sum_above_back_strict f g s t h = omega (arith, ints, mul-add_right f (pos s) (pos t), mul-add_left f g (pos s))

-- two rates that are at most a third have a sum that is
pub sum_at_most : (f g h : ℤ) (s t u : ℕ) → (f *ℤ pos u) ≤ℤ (h *ℤ pos s) → (g *ℤ pos u) ≤ℤ (h *ℤ pos t) → ((f +ℤ g) *ℤ pos u) ≤ℤ (h *ℤ pos (s + t))
sum_at_most f g h s t u a b = omega (arith, ints, mul-add_left f g (pos u), mul-add_right h (pos s) (pos t))

pub sum_at_least : (f g h : ℤ) (s t u : ℕ) → (h *ℤ pos s) ≤ℤ (f *ℤ pos u) → (h *ℤ pos t) ≤ℤ (g *ℤ pos u) → (h *ℤ pos (s + t)) ≤ℤ ((f +ℤ g) *ℤ pos u)
sum_at_least f g h s t u a b = omega (arith, ints, mul-add_left f g (pos u), mul-add_right h (pos s) (pos t))
