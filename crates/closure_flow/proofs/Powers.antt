-- A polynomial below a power.
use Rattle.std.proofs.Common.{◌≡◌, ℕ, ◌+◌, ◌*◌, ◌^◌, ◌≤◌, ap, ◌∙◌, arith}
use Rattle.std.proofs.Math.Nat.{pow-suc, pow-zero}

first : (x : ℕ) → x ^ 1 ≡ x
first x = pow-suc x 0 ∙ ap (λ (y : ℕ). y * x) (pow-zero x) ∙ omega arith

pub fourth : (x : ℕ) → x ^ 4 ≡ x * x * x * x
fourth x = pow-suc x 3 ∙ ap (λ (y : ℕ). y * x) (pow-suc x 2 ∙ ap (λ (y : ℕ). y * x) (pow-suc x 1 ∙ ap (λ (y : ℕ). y * x) (first x)))

pub below_fourth : (n : ℕ) → n + (n * (n * n) + n + 1) * n ≤ (n + 2) ^ 4 + (n + 2)
below_fourth n = omega (arith, fourth (n + 2))
